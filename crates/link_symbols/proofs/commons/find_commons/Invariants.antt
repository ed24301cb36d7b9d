use Rattle.std.proofs.Common.{◌≡◌, ◌++◌, ℕ, List, drop}
use Rattle.link_symbols.specs.Commons.{Common, common_at}
use Rattle.link_symbols.specs.Passes.{map_at, numbered_object}
use Rattle.link_symbols.specs.Symbols.{NamedValue, named_symbol}
use Rattle.link_symbols.specs.CommonNames.{borrowed}
use Rattle.link_symbols.specs.internal.Founds.{FoundSoFar}
use Rattle.link_symbols.specs.internal.Maps.{name_entry}
use Rattle.link_symbols.proofs.commons.find_commons.Given as goal

abbrev pub invariant-loop-k : goal.invariant-loop-k
invariant-loop-k l = (all : List Common) (rest : List NamedValue) → ((q : List ℕ) → name_entry l.names.commons q ≡ common_at l.first_common all q) →
    FoundSoFar l.names l.first_common all (borrowed l.fn.found.items) (map_at (named_symbol (numbered_object l.number l.first l.object)) 0 l.object.symbols ++ rest) →
    FoundSoFar l.names l.first_common all (borrowed l.found.items) (map_at (named_symbol (numbered_object l.number l.first l.object)) l.k (drop l.k l.object.symbols) ++ rest)
