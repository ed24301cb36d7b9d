use Rattle.std.proofs.Common.{◌≡◌, ◌≢◌, ℕ, ◌==◌, ◌-◌, ◌++◌, length, replicate, Bool, true, false, inr, nat_eq, Some, refl, sym, ap, ◌∙◌, List, arith}
use Rattle.std.specs.Cmp.Lexicographic.{pointwise}
use Rattle.std.proofs.lemmas.Bool.Decides.{nat_tests}
use Rattle.std.proofs.lemmas.Result.{err_from_is_err_and}
use Rattle.image_text.specs.declared.ImageFault.TheVariants.{Line, Twice}
use Rattle.image_text.specs.ImageText.{end_line}
use Rattle.image_text.specs.Refusal.{row_form, is_row, digits_word, digits_bytes}
use Rattle.image_text.proofs.LineTexts.{row_line_of}
use Rattle.image_text.proofs.StageLemmas.{form_fails}
use Rattle.image_text.proofs.RowTexts.{row_on, row_says, adds_row}
use Rattle.image_text.proofs.reader.next_row.Goals as goal

other : (line end : List ℕ) (e : Bool) → e ≡ pointwise nat_eq line end → e ≡ false → end ≡ end_line → pointwise nat_eq line end_line ≡ false
other line end e is unequal same = ap (λ (l : List ℕ). pointwise nat_eq line l) (sym same) ∙ sym is ∙ unequal

-- the test of a row, by its parts
tested : (last at : ℕ) (row line : List ℕ) (c d : Bool) → d ≡ c → c ≡ is_row last at row → at ≡ digits_word 3 line → row ≡ digits_bytes 8 16 line
    → is_row last (digits_word 3 line) (digits_bytes 8 16 line) ≡ d
tested last at row line c d same is at_is row_is = sym (same ∙ is ∙ ap (λ (n : ℕ). is_row last n row) at_is ∙ ap (is_row last (digits_word 3 line)) row_is)

pub returns-in_err-formed-clause-refused : goal.returns-in_err-formed-clause-refused
returns-in_err-formed-clause-refused c =
    let p = err_from_is_err_and c.from_residual-in_err-formed.result c.from_residual-in_err-formed.ensures.1 in
    let line = c.in_ok-line.line.text.now in
    rw (p.1, p.2) (inr (form_fails row_form line c.args.lines.now.spot _ _ c.in_ok-line.line.number c.in_ok-line.line.at c.in_err-formed.field-0.0
    (row_on c.args.last c.args.lines.now c.next.new.self line c.in_ok-line.ensures.line (other line _ _ c.eq.ensures c.if-eq.false c.as_slice.ensures))
    c.in_ok-line.ensures.spot.0 c.in_ok-line.ensures.spot.1 c.in_err-formed.ensures.err))

pub digits_word-at-requires : goal.digits_word-at-requires
digits_word-at-requires c = let k = row_line_of c.in_ok-line.line.text.now c.in_ok-formed.ensures.ok in k.at

pub sixteen_at-row-requires : goal.sixteen_at-row-requires
sixteen_at-row-requires c = let k = row_line_of c.in_ok-line.line.text.now c.in_ok-formed.ensures.ok in k.row

pub returns-then-not-is_row-clause-refused : goal.returns-then-not-is_row-clause-refused
returns-then-not-is_row-clause-refused c =
    let line = c.in_ok-line.line.text.now in
    let e = tested _ _ _ line _ false (sym c.if-not-is_row.true) c.is_row.ensures c.digits_word-at.ensures c.sixteen_at-row.ensures in
    inr (row_says c.args.last c.args.lines.now c.next.new.self line c.in_ok-line.ensures.line (other line _ _ c.eq.ensures c.if-eq.false c.as_slice.ensures) c.in_ok-formed.ensures.ok
    false (digits_word 3 line == c.args.last) e refl ∙ ap (λ (n : ℕ). Some (Line n)) (sym c.in_ok-line.ensures.spot.0))

pub returns-then-at-last-clause-refused : goal.returns-then-at-last-clause-refused
returns-then-at-last-clause-refused c =
    let line = c.in_ok-line.line.text.now in
    let e = tested _ _ _ line _ true (sym c.if-not-is_row.false) c.is_row.ensures c.digits_word-at.ensures c.sixteen_at-row.ensures in
    let same : digits_word 3 line ≡ c.args.last = sym c.digits_word-at.ensures ∙ c.if-at-last.true in
    let f : (digits_word 3 line == c.args.last) ≡ true = grind (arith, nat_tests) in
    inr (row_says c.args.last c.args.lines.now c.next.new.self line c.in_ok-line.ensures.line (other line _ _ c.eq.ensures c.if-eq.false c.as_slice.ensures) c.in_ok-formed.ensures.ok
    true true e f ∙ ap (λ (n : ℕ). Some (Twice n)) (sym c.digits_word-at.ensures))

pub returns-in-Ok-clause-row : goal.returns-in-Ok-clause-row
returns-in-Ok-clause-row c =
    let line = c.in_ok-line.line.text.now in
    let e = tested _ _ _ line _ true (sym c.if-not-is_row.false) c.is_row.ensures c.digits_word-at.ensures c.sixteen_at-row.ensures in
    let differ : digits_word 3 line ≢ c.args.last = λ x. c.if-at-last.false (c.digits_word-at.ensures ∙ x) in
    let f : (digits_word 3 line == c.args.last) ≡ false = grind (arith, nat_tests) in
    adds_row c.args.last c.args.lines.now c.next.new.self line c.in_ok-line.ensures.line (other line _ _ c.eq.ensures c.if-eq.false c.as_slice.ensures) c.in_ok-formed.ensures.ok
    c.digits_word-at.result c.args.memory.now.items c.grow.new.memory.items c.digits_word-at.ensures e f
    (c.in-Ok.ensures ∙ ap (λ (r : List ℕ). (c.args.memory.now.items ++ replicate (c.digits_word-at.result - length c.args.memory.now.items) 0) ++ r) c.sixteen_at-row.ensures)
