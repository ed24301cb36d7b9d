use Rattle.std.proofs.Common.{sym}
use Rattle.image_text.proofs.FormLemmas.{other_length}
use Rattle.image_text.proofs.forms.has_form.Goals as goal

pub returns-then-form-line : goal.returns-then-form-line
returns-then-form-line c = sym (other_length c.args.form.now c.args.line.now c.if-form-line.true)
