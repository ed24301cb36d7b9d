use Rattle.std.proofs.Common.{◌≡◌, ◌++◌, drop, take, map}
use Rattle.layout_file.specs.Views.{module_value}
use Rattle.link_symbols.specs.Passes.{first_at}
use Rattle.link_symbols.specs.Parts.{item_of}
use Rattle.link_symbols.specs.Refusals.{no_place_at}
use Rattle.link_symbols.proofs.item.push_sections.Given as goal

abbrev pub invariant-loop-k : goal.invariant-loop-k
invariant-loop-k l = record {
  items : l.items.items ≡ l.fn.items.items ++ map (item_of (map module_value l.modules) l.object) (take l.k l.object.sections);
  faults : first_at (no_place_at (map module_value l.modules) (record { number = l.number; first = l.first; object = l.object })) 0 l.object.sections
      ≡ first_at (no_place_at (map module_value l.modules) (record { number = l.number; first = l.first; object = l.object })) l.k (drop l.k l.object.sections);
}
