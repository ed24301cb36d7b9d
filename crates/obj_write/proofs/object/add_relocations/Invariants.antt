use Rattle.std.proofs.Common.{List, ◌++◌}
use Rattle.elf_objects.specs.Passes.{each_below}
use Rattle.asm_text.specs.Unit.{unit_of}
use Rattle.obj_write.specs.Sections.{FileSection}
use Rattle.obj_write.specs.internal.Sections.{AreSections}
use Rattle.obj_write.proofs.ObjectLemmas.{table_of}
use Rattle.obj_write.proofs.object.add_relocations.Given as goal

abbrev pub invariant-loop-j : goal.invariant-loop-j
invariant-loop-j l = (done : List FileSection) → AreSections done l.initial.sections → AreSections (done ++ each_below (table_of (unit_of l.unit)) l.j) l.sections
