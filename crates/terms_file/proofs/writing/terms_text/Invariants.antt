use Rattle.std.proofs.Common.{◌≡◌, ◌++◌, drop}
use Rattle.std.specs.List.{flat_map}
use Rattle.terms_file.specs.Terms.{term_line}
use Rattle.terms_file.proofs.writing.terms_text.Given as goal

abbrev pub invariant-loop-term : goal.invariant-loop-term
invariant-loop-term l = l.text.items ++ flat_map term_line (drop l.term-index l.terms) ≡ flat_map term_line l.terms
