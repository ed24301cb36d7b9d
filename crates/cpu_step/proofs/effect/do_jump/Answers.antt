use Rattle.std.proofs.Common.{◌∙◌, ap, w16}
use Rattle.std.proofs.lemmas.Int.{to_z-of_z}
use Rattle.cpu_step.specs.Effect.{jumps, jumped}
use Rattle.cpu_step.proofs.Forms.{jump_form}
use Rattle.cpu_step.proofs.effect.do_jump.Goals as goal

pub returns : goal.returns
returns c = λ values.
    let taken = c.jumps-taken.ensures ∙ ap (jumps c.args.condition) c.sr.ensures.sr in
    c.jump.ensures
    ∙ ap (λ z. jumped c.jumps-taken.result z c.step_past.new.core) (to_z-of_z w16 c.args.offset c.ranges.offset)
    ∙ jump_form c.args.core.now values c.args.insn.now c.args.condition c.args.offset _ _ c.requires c.step_past.ensures taken
