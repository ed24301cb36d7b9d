use Rattle.std.proofs.Common.{◌≡◌, ◌≤◌, ◌*◌, drop, take, map}
use Rattle.std.specs.List.{flat_map}
use Rattle.layout_file.specs.Views.{module_value}
use Rattle.mod_layout.specs.First.{first_in}
use Rattle.link_symbols.specs.Passes.{numbered_objects_from}
use Rattle.link_symbols.specs.Parts.{items_in}
use Rattle.link_symbols.specs.Refusals.{no_place_in}
use Rattle.link_symbols.proofs.item.sections_of.Given as goal

abbrev pub invariant-loop-number : goal.invariant-loop-number
invariant-loop-number l = record {
  items : l.items.items ≡ flat_map (items_in (map module_value l.modules)) (take l.number l.objects);
  faults : first_in (no_place_in (map module_value l.modules)) (numbered_objects_from 0 0 l.objects)
      ≡ first_in (no_place_in (map module_value l.modules)) (numbered_objects_from l.number l.first (drop l.number l.objects));
  first : l.first ≤ 65536 * l.number;
}
