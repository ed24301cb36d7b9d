-- On steps of padding.
use Rattle.std.proofs.Common.{◌≡◌, ℕ, zero, suc, ◌-◌, ◌<◌, refl, ◌∙◌, ap, arith}
use Rattle.reg_backup.specs.declared.backup.Phase.TheVariants.{Pad}
use Rattle.reg_backup.specs.declared.backup.After.{After}
use Rattle.reg_backup.specs.declared.backup.Phase.{Phase}
use Rattle.reg_backup.specs.declared.backup.After.TheVariants.{Next}
use Rattle.irq_padding.specs.Padding.{padding, after_steps, stepped_by}

abbrev step : Phase × After → Phase × After
step p = stepped_by p.0 p

-- a step of padding
step-padding : (m : ℕ) → step (padding m) ≡ padding (m - 1)
step-padding zero = refl
step-padding (suc m) = refl

-- n steps leave n cycles fewer
pub after_steps-padding : (n left : ℕ) → 0 < n → after_steps n (Pad left, Next) ≡ padding (left - n)
after_steps-padding zero left some = absurd (omega arith)
after_steps-padding (suc zero) left some = refl
after_steps-padding (suc (suc n)) left some =
    let e : left - suc n - 1 ≡ left - suc (suc n) = omega arith in
    ap step (after_steps-padding (suc n) left (omega arith)) ∙ step-padding (left - suc n) ∙ ap padding e

-- some padding left
pub padding-some : (m : ℕ) → 0 < m → padding m ≡ (Pad m, Next)
padding-some zero some = absurd (omega arith)
padding-some (suc m) some = refl
