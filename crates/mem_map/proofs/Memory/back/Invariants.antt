use Rattle.std.proofs.Common.{◌≡◌, ◌+◌, ◌-◌, take, length}
use Rattle.mem_map.proofs.Memory.back.Given as goal

-- so many marks are left
abbrev pub invariant-loop : goal.invariant-loop
invariant-loop l = l.self ≡ record l.initial.self { marked = take (length l.initial.self.marked - (l.counter - (l.fn.k + 1))) l.initial.self.marked }
