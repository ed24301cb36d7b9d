use Rattle.std.proofs.Common.{List, ℕ, ◌++◌, map, take}
use Rattle.asm_text.specs.Views.{section_value}
use Rattle.obj_write.specs.internal.Strings.{IsTableOf}
use Rattle.obj_write.specs.Object.{part_names}
use Rattle.obj_write.proofs.object.name_parts.Given as goal

abbrev pub invariant-loop-section : goal.invariant-loop-section
invariant-loop-section l = (names : List (List ℕ)) → IsTableOf names l.initial.strings → IsTableOf (names ++ part_names (map section_value (take l.section-index l.sections))) l.strings
