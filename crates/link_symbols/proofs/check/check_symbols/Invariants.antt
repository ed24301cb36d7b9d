use Rattle.std.proofs.Common.{◌≡◌, ◌≤◌, ◌*◌, ◌++◌, drop, map}
use Rattle.link_symbols.specs.internal.Maps.{meaning_of_name, name_entry, AreFirsts}
use Rattle.link_symbols.specs.internal.Meanings.{listed_meanings}
use Rattle.link_symbols.specs.Resolved.{meanings_in}
use Rattle.link_symbols.specs.internal.Meanings.{AllOwnMeanings}
use Rattle.mod_layout.specs.First.{first_in}
use Rattle.link_symbols.specs.Passes.{numbered_objects_from}
use Rattle.link_symbols.specs.Refusals.{undefined_in}
use Rattle.link_symbols.specs.Symbols.{named_symbols_in}
use Rattle.std.specs.List.{flat_map}
use Rattle.link_symbols.proofs.check.check_symbols.Given as goal

abbrev pub invariant-loop-number : goal.invariant-loop-number
invariant-loop-number l = record {
  faults : first_in (undefined_in (meaning_of_name l.names)) (numbered_objects_from 0 0 l.objects) ≡ first_in (undefined_in (meaning_of_name l.names)) (numbered_objects_from l.number l.first (drop l.number l.objects));
  known : AreFirsts (name_entry l.names.weak) (flat_map named_symbols_in (numbered_objects_from l.number l.first (drop l.number l.objects))) l.firsts;
  own : AllOwnMeanings (meaning_of_name l.names) (numbered_objects_from l.number l.first (drop l.number l.objects));
  found : map listed_meanings l.meanings.items ++ map (meanings_in (meaning_of_name l.names)) (numbered_objects_from l.number l.first (drop l.number l.objects)) ≡ map (meanings_in (meaning_of_name l.names)) (numbered_objects_from 0 0 l.objects);
  first : l.first ≤ 65536 * l.number;
}
