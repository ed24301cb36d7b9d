use Rattle.std.proofs.Common.{◌≡◌, drop, length}
use Rattle.image_text.specs.Refusal.{has_form as has_form_lem}
use Rattle.image_text.proofs.forms.has_form.Given as goal

-- what was passed fits
abbrev pub invariant-loop-index : goal.invariant-loop-index
invariant-loop-index l = record {
  lengths : length l.form ≡ length l.line;
  passed : has_form_lem l.form l.line ≡ has_form_lem (drop l.index l.form) (drop l.index l.line);
}
