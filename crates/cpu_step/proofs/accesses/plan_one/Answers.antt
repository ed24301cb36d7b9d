use Rattle.std.proofs.Common.{◌∙◌, ap, ◌++◌, true}
use Rattle.pc_access.specs.declared.Kind.TheVariants.{Read}
use Rattle.cpu_step.specs.Plan.{access_if, one_writes}
use Rattle.cpu_step.proofs.Forms.{plan_one_form}
use Rattle.cpu_step.proofs.accesses.plan_one.Goals as goal

pub returns : goal.returns
returns c =
    let first = c.add_access.ensures.items ∙ ap (λ l. l ++ access_if true Read c.args.width c.place-operand.result) c.requires.none in
    c.add_write.ensures
    ∙ ap (λ l. l ++ one_writes c.args.op c.args.width c.place-operand.result c.sp.result) first
    ∙ plan_one_form c.args.insn.now c.args.core.now c.args.op c.args.width c.args.arg _ _ _ _ _ _ c.requires.form c.step_past.ensures c.extension.ensures c.place-operand.ensures c.increment.ensures c.lower.ensures c.sp.ensures.sp
