use Rattle.std.specs.Result.{is_ok}
use Rattle.std.proofs.Common.{not, true, sym, ◌≡◌, ◌∙◌, ap, arith}
use Rattle.texts.proofs.RowLemmas.{IsRead-start, IsRead-push}
use Rattle.terms_file.specs.Terms.{term_rows}
use Rattle.terms_file.proofs.reading.read_terms.Goals as goal

pub loop-line-init : goal.loop-line-init
loop-line-init c = rw c.new-list.ensures.items (IsRead-start term_rows (λ term. Unit {0}) c.args.bytes.now)

pub loop-line-preserved : goal.loop-line-preserved
loop-line-preserved c =
    let pushed : is_ok c.push.result ≡ true = c.is_err.ensures.negation ∙ ap not c.if-is_err.false in
    let is = c.term_place-place.ensures.place in
    rw (c.push.ensures.items, pushed, is)
    (IsRead-push term_rows (λ term. Unit {0}) _ _ _ _ _ _ _ c.loop-line.invariant c.in-Some.ensures.lines _ c.if-n-gt-MAX_LINES.false
    (sym c.term_of.ensures ∙ c.in-Some-term_of.is) (omega (arith, is)) (omega arith) tt)
