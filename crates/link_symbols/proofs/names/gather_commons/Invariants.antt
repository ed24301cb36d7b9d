use Rattle.std.proofs.Common.{◌≡◌, ◌≤◌, ◌*◌, [], drop}
use Rattle.std.specs.List.{flat_map}
use Rattle.link_symbols.specs.Passes.{numbered_objects_from}
use Rattle.link_symbols.specs.Symbols.{named_symbols_in, named_symbols}
use Rattle.link_symbols.specs.internal.Maps.{name_entry}
use Rattle.link_symbols.proofs.CommonLemmas.{Gathered}
use Rattle.link_symbols.proofs.names.gather_commons.Given as goal

abbrev pub invariant-loop-number : goal.invariant-loop-number
invariant-loop-number l = record {
  gathered : Gathered l.names l.items.items l.fn.items.items (name_entry l.fn.names.strong) [] (named_symbols l.objects) (flat_map named_symbols_in (numbered_objects_from l.number l.first (drop l.number l.objects)));
  strong : l.names.strong ≡ l.fn.names.strong;
  weak : l.names.weak ≡ l.fn.names.weak;
  firsts : l.names.firsts ≡ l.fn.names.firsts;
  first : l.first ≤ 65536 * l.number;
}
