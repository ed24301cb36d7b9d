use Rattle.std.proofs.Common.{◌≡◌, ◌+◌, ◌-◌, ◌≤◌}
use Rattle.mod_layout.specs.Table.{size_of}
use Rattle.sm_words.specs.Words.{cleared}
use Rattle.mem_map.proofs.Memory.clear.Given as goal

-- the bytes below the address are cleared
abbrev pub invariant-loop-addr : goal.invariant-loop-addr
invariant-loop-addr l = record {
  bytes : l.self.bytes ≡ cleared l.fn.section.start (l.addr - l.fn.section.start) l.initial.self.bytes;
  marked : l.self.marked ≡ l.initial.self.marked;
  room : l.self.room ≡ l.initial.self.room;
  most : l.addr ≤ l.fn.section.start + size_of l.fn.section;
}
