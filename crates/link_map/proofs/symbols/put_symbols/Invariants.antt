use Rattle.std.proofs.Common.{◌≡◌, ◌≤◌, ◌*◌, ◌++◌, map, drop}
use Rattle.std.specs.List.{flat_map}
use Rattle.linker.specs.Linkage.{listed_numbers}
use Rattle.linker.specs.Numbers.{Linking, numbers_in}
use Rattle.link_symbols.specs.Passes.{numbered_objects, numbered_objects_from}
use Rattle.link_map.specs.Map.{symbol_lines}
use Rattle.link_map.proofs.symbols.put_symbols.Given as goal

abbrev pub invariant-loop-number : goal.invariant-loop-number
invariant-loop-number l = record {
  told : (linking : Linking) → listed_numbers l.numbers ≡ map (numbers_in linking) (numbered_objects l.objects) →
      (l.out.text.items ++ flat_map (symbol_lines linking l.table) (numbered_objects_from l.number l.first (drop l.number l.objects)) ≡ l.fn.out.text.items ++ flat_map (symbol_lines linking l.table) (numbered_objects l.objects))
      × (drop l.number (listed_numbers l.numbers) ≡ map (numbers_in linking) (numbered_objects_from l.number l.first (drop l.number l.objects)));
  first : l.first ≤ 65536 * l.number;
}
