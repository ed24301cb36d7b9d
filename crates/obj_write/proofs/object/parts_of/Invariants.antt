use Rattle.elf_objects.specs.Passes.{each_below}
use Rattle.asm_text.specs.Unit.{unit_of}
use Rattle.obj_write.specs.internal.Sections.{AreSections}
use Rattle.obj_write.proofs.ObjectLemmas.{part_of}
use Rattle.obj_write.proofs.object.parts_of.Given as goal

abbrev pub invariant-loop-i : goal.invariant-loop-i
invariant-loop-i l = AreSections (each_below (part_of (unit_of l.unit)) l.i) l.sections
