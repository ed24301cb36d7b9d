use Rattle.std.proofs.Common.{◌≡◌, ℕ, List, ◌+◌, ◌-◌}
use Rattle.mod_layout.specs.First.{first_in}
use Rattle.pc_access.specs.Rights.{right}
use Rattle.attest.specs.Units.{each_byte}
use Rattle.attest.proofs.rights.check.Given as goal

-- the bytes still to come decide
abbrev pub invariant-loop-offset : goal.invariant-loop-offset
invariant-loop-offset l = (held : List ℕ) →
    first_in (right l.table l.active held) (each_byte l.kind l.start l.count)
    ≡ first_in (right l.table l.active held) (each_byte l.kind (l.start + l.offset) (l.count - l.offset))
