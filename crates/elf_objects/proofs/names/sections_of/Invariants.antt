use Rattle.std.proofs.Common.{◌≡◌}
use Rattle.elf_objects.specs.Passes.{each_below}
use Rattle.elf_objects.specs.Names.{section_of}
use Rattle.elf_objects.proofs.names.sections_of.Given as goal

abbrev pub invariant-loop-i : goal.invariant-loop-i
invariant-loop-i l = l.sections.items ≡ each_below (section_of l.file) l.i
