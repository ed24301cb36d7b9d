use Rattle.std.proofs.Common.{◌≡◌, map, []}
use Rattle.elf_objects.specs.Passes.{each_below}
use Rattle.obj_write.specs.Relocations.{relocation_table}
use Rattle.obj_write.proofs.relocations.empty_tables.Given as goal

abbrev pub invariant-loop-section : goal.invariant-loop-section
invariant-loop-section l = map (λ t. t.items) l.tables.items ≡ each_below (relocation_table []) l._section
