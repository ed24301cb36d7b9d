use Rattle.std.proofs.Common.{◌≡◌, ◌≤◌, ◌*◌, ℕ, List, [], drop, None}
use Rattle.std.specs.List.{flat_map}
use Rattle.link_symbols.specs.Passes.{numbered_objects_from}
use Rattle.link_symbols.specs.Symbols.{named_symbols_in, named_symbols}
use Rattle.link_symbols.specs.internal.Maps.{name_entry}
use Rattle.link_symbols.proofs.NameLemmas.{Reached}
use Rattle.link_symbols.proofs.names.definitions_of.Given as goal

abbrev pub invariant-loop-number : goal.invariant-loop-number
invariant-loop-number l = record {
  reached : Reached l.names [] (named_symbols l.objects) (flat_map named_symbols_in (numbered_objects_from l.number l.first (drop l.number l.objects)));
  commons : (q : List ℕ) → name_entry l.names.commons q ≡ None;
  first : l.first ≤ 65536 * l.number;
}
