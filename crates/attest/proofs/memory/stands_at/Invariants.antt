use Rattle.std.proofs.Common.{◌≡◌, ◌<◌, ◌+◌, length, drop, slice_range}
use Rattle.std.specs.Prelude.{bytes_eq}
use Rattle.attest.proofs.memory.stands_at.Given as goal

-- the bytes still to come decide
abbrev pub invariant-loop-i : goal.invariant-loop-i
invariant-loop-i l = record {
  rest : bytes_eq (slice_range l.memory.bytes l.addr (l.addr + 16)) l.tag ≡ bytes_eq (slice_range l.memory.bytes (l.addr + l.i) (l.addr + 16)) (drop l.i l.tag);
  size : 0 < l.i → length l.memory.bytes ≡ 65536;
}
