use Rattle.std.proofs.Common.{List, ℕ, ◌++◌, map, take}
use Rattle.asm_text.specs.Unit.{unit_of}
use Rattle.obj_write.specs.internal.Strings.{IsTableOf}
use Rattle.obj_write.proofs.ObjectLemmas.{relocation_name_at}
use Rattle.obj_write.proofs.object.name_relocations.Given as goal

abbrev pub invariant-loop-i : goal.invariant-loop-i
invariant-loop-i l = (names : List (List ℕ)) → IsTableOf names l.initial.strings → IsTableOf (names ++ map (relocation_name_at (unit_of l.unit).sections) (take l.i-index l.relocated)) l.strings
