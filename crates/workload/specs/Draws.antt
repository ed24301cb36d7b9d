-- The numbers that are drawn from a seed.
use Rattle.std.specs.Prelude.{ℕ, zero, suc, ◌+◌, ◌*◌, ◌%◌}
use Rattle.workload.specs.declared.draws.TheConstants.{FACTOR, ADDEND, BOUND}

-- the number after this one
abbrev pub next_number : ℕ → ℕ
next_number number = (number * FACTOR + ADDEND) % BOUND

-- number n; number 0 is the seed itself
unfoldable pub drawn : ℕ → ℕ → ℕ
drawn seed zero = seed
drawn seed (suc n) = next_number (drawn seed n)
