use Rattle.std.proofs.Common.{◌≤◌, ◌*◌, drop}
use Rattle.std.specs.List.{flat_map}
use Rattle.link_symbols.specs.Commons.{commons_of}
use Rattle.link_symbols.specs.Passes.{numbered_objects_from}
use Rattle.link_symbols.specs.Symbols.{named_symbols_in, named_symbols}
use Rattle.link_symbols.specs.CommonNames.{borrowed}
use Rattle.link_symbols.specs.internal.Founds.{FoundSoFar}
use Rattle.link_symbols.proofs.commons.commons_of.Given as goal

abbrev pub invariant-loop-number : goal.invariant-loop-number
invariant-loop-number l = record {
  found : FoundSoFar l.names l.first_common (commons_of (named_symbols l.objects)) (borrowed l.found.items) (flat_map named_symbols_in (numbered_objects_from l.number l.first (drop l.number l.objects)));
  first : l.first ≤ 65536 * l.number;
}
