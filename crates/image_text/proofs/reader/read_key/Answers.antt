use Rattle.std.proofs.Common.{ℕ, sym, ap, ◌∙◌, List}
use Rattle.std.proofs.lemmas.Result.{err_from_is_err_and}
use Rattle.image_text.specs.ImageText.{line_before, key_line}
use Rattle.image_text.specs.Refusal.{key_form, key_refusal, handler_refusal}
use Rattle.image_text.proofs.FormLemmas.{formed_ok}
use Rattle.image_text.proofs.LineTexts.{key_line_of}
use Rattle.image_text.proofs.StageLemmas.{line_on, form_fails, next_on}
use Rattle.image_text.proofs.reader.read_key.Goals as goal

pub returns-in_err-formed-clause-refused : goal.returns-in_err-formed-clause-refused
returns-in_err-formed-clause-refused c = let p = err_from_is_err_and c.from_residual-in_err-formed.result c.from_residual-in_err-formed.ensures.1 in rw (p.1, p.2) (λ room.
    form_fails key_form c.in_ok-line.line.text.now c.args.lines.now.spot _ _ c.in_ok-line.line.number c.in_ok-line.line.at c.in_err-formed.field-0.0
    (line_on (key_refusal room) c.args.lines.now c.next.new.self c.in_ok-line.line.text.now c.in_ok-line.ensures.line)
    c.in_ok-line.ensures.spot.0 c.in_ok-line.ensures.spot.1 c.in_err-formed.ensures.err)

pub sixteen_at-requires : goal.sixteen_at-requires
sixteen_at-requires c = let k = key_line_of c.in_ok-line.line.text.now c.in_ok-formed.ensures.ok in k.coded

pub returns-clause-passed : goal.returns-clause-passed
returns-clause-passed c = λ room.
    let k = key_line_of c.in_ok-line.line.text.now c.in_ok-formed.ensures.ok in
    let r = c.in_ok-line.ensures.line in
    record {
      text = r.text ∙ ap (λ (l : List ℕ). line_before l c.next.new.self.rest) (k.text ∙ ap key_line (sym c.sixteen_at.ensures));
      refusal = line_on (key_refusal room) c.args.lines.now c.next.new.self c.in_ok-line.line.text.now r ∙ formed_ok key_form c.args.lines.now.spot c.in_ok-line.line.text.now _ c.in_ok-formed.ensures.ok
          ∙ next_on (handler_refusal room) c.args.lines.now c.next.new.self c.in_ok-line.line.text.now r;
    }
