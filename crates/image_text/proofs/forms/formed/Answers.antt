use Rattle.std.proofs.Common.{sym, ◌∙◌}
use Rattle.image_text.proofs.FormLemmas.{form_length, has_form_of}
use Rattle.image_text.proofs.forms.formed.Goals as goal

pub bad_digit-requires-clause-form : goal.bad_digit-requires-clause-form
bad_digit-requires-clause-form c = form_length c.args.form.now c.args.line.text.now (sym c.has_form.ensures ∙ c.if-not-has_form.false)

pub returns-in-None-clause-ok : goal.returns-in-None-clause-ok
returns-in-None-clause-ok c = has_form_of c.args.form.now c.args.line.text.now c.args.line.at (sym c.has_form.ensures ∙ c.if-not-has_form.false) (sym c.bad_digit.ensures ∙ c.in-None.is)
