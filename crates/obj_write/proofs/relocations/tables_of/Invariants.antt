use Rattle.std.proofs.Common.{◌≡◌, map, take}
use Rattle.elf_objects.specs.Passes.{each_below}
use Rattle.obj_write.specs.Relocations.{relocation_table}
use Rattle.obj_write.proofs.relocations.tables_of.Given as goal

abbrev pub invariant-loop-relocation : goal.invariant-loop-relocation
invariant-loop-relocation l = map (λ t. t.items) l.tables.items ≡ each_below (relocation_table (take l.relocation-index l.relocations)) l.count
