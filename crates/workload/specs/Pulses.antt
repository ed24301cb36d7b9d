-- The schedule of a workload: pulses on a line.
use Rattle.std.specs.Prelude.{ℕ, zero, suc, ◌+◌, ◌*◌, ◌%◌, List, [], ◌∷◌, ◌++◌}
use Rattle.schedule_file.specs.declared.Entry.{Entry}
use Rattle.schedule_file.specs.declared.What.TheVariants.{Up, Down}
use Rattle.workload.specs.declared.pulses.TheConstants.{FIRST, GAP, SPREAD, LINE}
use Rattle.workload.specs.Draws.{drawn}

-- the cycle in which pulse n begins; the first number drawn is not used for pulses
abbrev pub pulse_cycle : ℕ → ℕ → ℕ
pulse_cycle seed n = FIRST + GAP * n + drawn seed (n + 2) % SPREAD

-- the line goes up in this cycle, and down in the next
abbrev pub pulse : ℕ → List Entry
pulse cycle = record { cycle = cycle; what = Up LINE } ∷ record { cycle = cycle + 1; what = Down LINE } ∷ []

-- the first so many pulses
unfoldable pub pulses : ℕ → ℕ → List Entry
pulses seed zero = []
pulses seed (suc n) = pulses seed n ++ pulse (pulse_cycle seed n)
