use Rattle.std.proofs.Common.{◌≡◌, ◌++◌, drop}
use Rattle.std.specs.List.{flat_map}
use Rattle.terms_file.specs.Terms.{answer_in}
use Rattle.terms_file.proofs.lists.answers.Given as goal

abbrev pub invariant-loop-term : goal.invariant-loop-term
invariant-loop-term l = l.list.items ++ flat_map answer_in (drop l.term-index l.terms) ≡ flat_map answer_in l.terms
