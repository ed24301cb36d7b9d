use Rattle.std.proofs.Common.{◌≡◌, ◌-◌, ap, sym, ◌∙◌, arith}
use Rattle.irq_padding.specs.Padding.{padding}
use Rattle.irq_padding.proofs.Steps.{after_steps-padding, padding-some}
use Rattle.irq_padding.proofs.pad_by.Goals as goal

pub returns-then-n-left-clause-stepped : goal.returns-then-n-left-clause-stepped
returns-then-n-left-clause-stepped c =
    sym (after_steps-padding c.args.n c.args.left c.requires.some ∙ padding-some (c.args.left - c.args.n) (omega arith))

pub returns-else-n-left-clause-stepped : goal.returns-else-n-left-clause-stepped
returns-else-n-left-clause-stepped c =
    let none : c.args.left - c.args.n ≡ 0 = omega arith in
    sym (after_steps-padding c.args.n c.args.left c.requires.some ∙ ap padding none)
