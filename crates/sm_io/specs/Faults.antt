-- Counts of faults of an object that is handed in. Each is kept in a counter of 64 bits, which stands still at its last value.
use Rattle.std.specs.Prelude.{◌≡◌, ℕ, ◌+◌, ◌-◌, ◌^◌, ◌≤◌, min, Bool, true, false}

-- what such a counter shows of a number
abbrev pub counted : ℕ → ℕ
counted n = min n (2 ^ 64 - 1)

-- the count is above what it was, or stands at the counter's last value
abbrev pub Rose : ℕ → ℕ → Type 0
Rose before now = counted (before + 1) ≤ now

-- of a call that failed: the count did not fall, and it rose; of one that did not fail: it stays
abbrev pub HasCause : ℕ → ℕ → Bool → Type 0
HasCause before now true = (before ≤ now) × Rose before now
HasCause before now false = now ≡ before
