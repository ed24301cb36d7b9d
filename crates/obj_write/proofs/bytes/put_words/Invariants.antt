use Rattle.std.proofs.Common.{◌≡◌, ◌++◌, take}
use Rattle.obj_write.specs.Bytes.{longs_bytes}
use Rattle.obj_write.proofs.bytes.put_words.Given as goal

abbrev pub invariant-loop-n : goal.invariant-loop-n
invariant-loop-n l = l.out.items ≡ l.initial.out.items ++ longs_bytes (take l.n-index l.ns)
