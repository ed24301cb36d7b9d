use Rattle.std.proofs.Common.{◌≡◌, ◌++◌, take}
use Rattle.std.specs.List.{flat_map}
use Rattle.obj_write.specs.Sections.{head_bytes}
use Rattle.obj_write.proofs.sections.put_heads.Given as goal

abbrev pub invariant-loop-head : goal.invariant-loop-head
invariant-loop-head l = l.out.items ≡ l.initial.out.items ++ flat_map head_bytes (take l.head-index l.heads)
