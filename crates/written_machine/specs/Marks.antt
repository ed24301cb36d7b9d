-- Moments that a machine may go back to.
use Rattle.std.specs.Prelude.{ℕ, ◌+◌, ◌-◌, List, [], ◌∷◌, ◌++◌, length, take, nat_lt, if◌then◌else◌, Option, Some, None, option_map}
use Rattle.std.specs.List.{slice_get}
use Rattle.std.specs.Option.{option_and_then}
use Rattle.written_machine.specs.Standing.{last_standing}
use Rattle.written_machine.specs.State.{State}

-- the present state, how many marks there may be, and the states at the marks, the oldest first
pub record Marked : Type 0 where
  pub present : State
  pub most : ℕ
  pub marks : List State

-- no mark yet
abbrev pub unmarked : ℕ → State → Marked
unmarked most s = record { present = s; most = most; marks = [] }

-- another present state, under the same marks
abbrev pub at_state : Marked → State → Marked
at_state g s = record g { present = s }

-- one more mark, where there is room: the present state
abbrev pub marked : Marked → Option Marked
marked g = if nat_lt (length g.marks) g.most then Some (record g { marks = g.marks ++ g.present ∷ [] }) else None

-- at a state, with the marks up to mark k alone
abbrev pub cut_at : ℕ → Marked → State → Marked
cut_at k g s = record g { present = s; marks = take (k + 1) g.marks }

-- back to mark k, where there is one
abbrev pub back_to : ℕ → Marked → Option Marked
back_to k g = option_map (cut_at k g) (slice_get g.marks k)

-- from a state on, the last before the present cycle that stands at an address
abbrev pub last_from : ℕ → Marked → State → Option State
last_from addr g s = last_standing addr s (g.present.cycle - s.cycle)

-- to the last state from mark k on, and before the present cycle, that stands at an address, where there are both
abbrev pub last_at : ℕ → ℕ → Marked → Option Marked
last_at addr k g = option_map (cut_at k g) (option_and_then (last_from addr g) (slice_get g.marks k))
