use Rattle.std.proofs.Common.{◌≡◌, ◌≤◌, ◌*◌, take}
use Rattle.link_symbols.specs.Names.{count_sections}
use Rattle.link_map.proofs.text.section_count.Given as goal

abbrev pub invariant-loop-object : goal.invariant-loop-object
invariant-loop-object l = record {
  count : l.count ≡ count_sections (take l.object-index l.objects);
  low : l.count ≤ 65536 * l.object-index;
}
