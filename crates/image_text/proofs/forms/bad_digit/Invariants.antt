use Rattle.std.proofs.Common.{◌≡◌, ◌+◌, drop}
use Rattle.image_text.specs.Refusal.{bad_digit as bad_digit_lem}
use Rattle.image_text.proofs.forms.bad_digit.Given as goal

-- no digit that was passed is bad
abbrev pub invariant-loop-index : goal.invariant-loop-index
invariant-loop-index l = bad_digit_lem l.form l.line l.at ≡ bad_digit_lem (drop l.index l.form) (drop l.index l.line) (l.at + l.index)
