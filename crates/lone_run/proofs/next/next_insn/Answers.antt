use Rattle.std.proofs.Common.{◌∙◌, ap}
use Rattle.cpu_step.specs.Fetched.{insn_in}
use Rattle.cpu_step.specs.Lone.{Lone, lone_byte, may_do, next_insn}
use Rattle.lone_run.specs.internal.Jobs.{lone_call}
use Rattle.lone_run.proofs.next.next_insn.Goals as goal

pub returns-clause-exact : goal.returns-clause-exact
unfolding next_insn
returns-clause-exact c = λ rest closing.
    let j = lone_call c.args.job.now in
    let l : Lone = record { core = c.args.core.now; data_bytes = c.args.ram.now; rest = rest; closing = closing } in
    c.may_do.ensures.exact c.args.ram.now rest closing
    ∙ ap (may_do j l) (c.insn_in-insn.ensures.exact ∙ ap (insn_in (lone_byte j c.args.ram.now) j.owner.text) c.get.ensures.word)
