use Rattle.insn_decode.specs.Code.{is_always}
use Rattle.flow_check.specs.internal.Programs.{domain_of}
use Rattle.std.proofs.Common.{◌∙◌, sym, subst, ap}
use Rattle.flow_check.specs.internal.Points.{state_of, point_of}
use Rattle.flow_check.specs.internal.Steps.{Tells, condition_of}
use Rattle.flow_check.proofs.Violations.{jump_always}
use Rattle.flow_check.specs.internal.Terms.{terms_in}
use Rattle.flow_check.proofs.step.step_jump.Goals as goal

pub returns-then-is_always : goal.returns-then-is_always
returns-then-is_always c = λ text.
    subst (λ s. Tells s c.args.stepped.now c.step_taken.new.stepped (state_of c.step_taken.new.core c.args.words.now))
    (sym (jump_always (domain_of c.args.program.now.flags) (terms_in c.args.program.now) c.args.program.now.module.now text c.args.insn.now (condition_of c.args.insn.now) (point_of c.args.pc c.args.stepped.now.call_string (state_of c.args.core.now c.args.words.now)) (ap is_always (sym c.condition_of-condition.ensures) ∙ sym c.is_always.ensures ∙ c.if-is_always.true))) c.step_taken.ensures
