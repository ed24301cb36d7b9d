use Rattle.std.proofs.Common.{◌≡◌, ℕ, ◌%◌, ◌==◌, true, false, cond, sym, ap, ◌∙◌, List, Some, arith}
use Rattle.std.proofs.lemmas.Bool.Decides.{nat_tests}
use Rattle.std.proofs.lemmas.Result.{err_from_is_err_and}
use Rattle.texts.specs.Lines.{ended_lines, unended}
use Rattle.image_text.specs.declared.ImageFault.TheVariants.{Line}
use Rattle.image_text.specs.ImageText.{line_before, handler_line}
use Rattle.image_text.specs.Refusal.{next_spot, line_fault, handler_form, digits_word, handler_refusal, count_refusal}
use Rattle.image_text.proofs.FormLemmas.{formed_ok}
use Rattle.image_text.proofs.LineTexts.{handler_line_of}
use Rattle.image_text.proofs.StageLemmas.{line_on, form_fails, next_on}
use Rattle.image_text.proofs.reader.read_handler.Goals as goal

pub returns-in_err-formed-clause-refused : goal.returns-in_err-formed-clause-refused
returns-in_err-formed-clause-refused c = let p = err_from_is_err_and c.from_residual-in_err-formed.result c.from_residual-in_err-formed.ensures.1 in rw (p.1, p.2) (λ room.
    form_fails handler_form c.in_ok-line.line.text.now c.args.lines.now.spot _ _ c.in_ok-line.line.number c.in_ok-line.line.at c.in_err-formed.field-0.0
    (line_on (handler_refusal room) c.args.lines.now c.next.new.self c.in_ok-line.line.text.now c.in_ok-line.ensures.line)
    c.in_ok-line.ensures.spot.0 c.in_ok-line.ensures.spot.1 c.in_err-formed.ensures.err)

pub digits_word-handler_sp-requires : goal.digits_word-handler_sp-requires
digits_word-handler_sp-requires c = let k = handler_line_of c.in_ok-line.line.text.now c.in_ok-formed.ensures.ok in k.coded

pub returns-then-handler_sp-ne0-clause-refused : goal.returns-then-handler_sp-ne0-clause-refused
returns-then-handler_sp-ne0-clause-refused c = λ room.
    let is = c.digits_word-handler_sp.ensures in
    let odd = c.if-handler_sp-ne0.true in
    let e : (digits_word 8 c.in_ok-line.line.text.now % 2 == 0) ≡ false = rw (← is) (grind (arith, nat_tests)) in
    line_on (handler_refusal room) c.args.lines.now c.next.new.self c.in_ok-line.line.text.now c.in_ok-line.ensures.line ∙ formed_ok handler_form c.args.lines.now.spot c.in_ok-line.line.text.now _ c.in_ok-formed.ensures.ok
    ∙ ap (λ b. cond b (count_refusal room (next_spot c.in_ok-line.line.text.now c.args.lines.now.spot) (ended_lines c.next.new.self.rest) (unended c.next.new.self.rest)) (line_fault c.args.lines.now.spot)) e
    ∙ ap (λ (n : ℕ). Some (Line n)) (sym c.in_ok-line.ensures.spot.0)

pub returns-clause-passed : goal.returns-clause-passed
returns-clause-passed c = λ room.
    let k = handler_line_of c.in_ok-line.line.text.now c.in_ok-formed.ensures.ok in
    let r = c.in_ok-line.ensures.line in
    let is = c.digits_word-handler_sp.ensures in
    let even = c.if-handler_sp-ne0.false in
    let e : (digits_word 8 c.in_ok-line.line.text.now % 2 == 0) ≡ true = rw (← is) (grind (arith, nat_tests)) in
    record {
      text = r.text ∙ ap (λ (l : List ℕ). line_before l c.next.new.self.rest) (k.text ∙ ap handler_line (sym is));
      refusal = line_on (handler_refusal room) c.args.lines.now c.next.new.self c.in_ok-line.line.text.now r ∙ formed_ok handler_form c.args.lines.now.spot c.in_ok-line.line.text.now _ c.in_ok-formed.ensures.ok
          ∙ ap (λ b. cond b (count_refusal room (next_spot c.in_ok-line.line.text.now c.args.lines.now.spot) (ended_lines c.next.new.self.rest) (unended c.next.new.self.rest)) (line_fault c.args.lines.now.spot)) e
          ∙ next_on (count_refusal room) c.args.lines.now c.next.new.self c.in_ok-line.line.text.now r;
    }
