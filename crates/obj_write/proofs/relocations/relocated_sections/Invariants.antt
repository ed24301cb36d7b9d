use Rattle.std.proofs.Common.{◌≡◌, List, length, map}
use Rattle.elf_objects.specs.Passes.{each_below}
use Rattle.asm_text.specs.declared.unit.AsmRelocation.{AsmRelocation}
use Rattle.obj_write.specs.Relocations.{relocation_table, relocated_sections}
use Rattle.obj_write.proofs.relocations.relocated_sections.Given as goal

abbrev pub invariant-loop-i : goal.invariant-loop-i
invariant-loop-i l = (rs : List AsmRelocation) → map (λ t. t.items) l.tables ≡ each_below (relocation_table rs) (length l.tables) → l.sections.items ≡ relocated_sections rs l.i
