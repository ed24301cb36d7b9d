use Rattle.std.proofs.Common.{length}
use Rattle.texts.proofs.RowLemmas.{IsRead}
use Rattle.terms_file.specs.Terms.{term_rows}
use Rattle.terms_file.proofs.reading.read_terms.Given as goal

abbrev pub invariant-loop-line : goal.invariant-loop-line
invariant-loop-line l = IsRead term_rows (λ term. Unit {0}) l.bytes l.list.items l.rest l.n l.low

abbrev pub decreases-loop-line : goal.decreases-loop-line
decreases-loop-line l = length l.rest
