use Rattle.std.proofs.Common.{◌≡◌, ◌+◌, ◌-◌, drop}
use Rattle.pc_access.specs.declared.Kind.TheVariants.{Write}
use Rattle.attest.specs.Units.{each_byte}
use Rattle.attest.specs.Accesses.{memory_after}
use Rattle.mem_map.specs.Contents.{SameMarks}
use Rattle.attest.proofs.memory.store.Given as goal

-- the bytes still to come are stored next
abbrev pub invariant-loop-i : goal.invariant-loop-i
invariant-loop-i l = record {
  stored : memory_after l.fn.memory.bytes (each_byte Write l.addr 16) l.tag
      ≡ memory_after l.memory.bytes (each_byte Write (l.addr + l.i) (16 - l.i)) (drop l.i l.tag);
  marks : SameMarks l.fn.memory l.memory;
}
