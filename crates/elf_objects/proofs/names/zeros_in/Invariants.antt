use Rattle.std.proofs.Common.{◌≡◌, ◌++◌, ◌<◌, length, All}
use Rattle.memchr.specs.Find.{is_byte, places}
use Rattle.elf_objects.proofs.names.zeros_in.Given as goal

abbrev pub invariant-loop-place : goal.invariant-loop-place
invariant-loop-place l =
    (goal.iterator-loop-place).can_next l.place-iterator
    × (goal.iterator-loop-place).is_finite l.place-iterator
    × All (λ k. k < length l.bytes) l.place-iterator
    × (l.zeros.items ++ l.place-iterator ≡ places (is_byte 0) l.bytes)
