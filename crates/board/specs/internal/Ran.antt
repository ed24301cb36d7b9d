-- What the code's own invariants say of: Ran.
use Rattle.std.specs.Prelude.{◌≡◌, ℕ, ◌<◌, false, ◌&&◌}
use Rattle.written_machine.specs.State.{State}
use Rattle.written_machine.specs.Cycle.{after_cycles}
use Rattle.written_machine.specs.Standing.{stands_at}

-- before none of the next n cycles it stands at an address
abbrev pub StandsNotAt : ℕ → ℕ → State → Type 0
StandsNotAt addr n s = (m : ℕ) → m < n → stands_at addr (after_cycles s m) ≡ false

-- where it stands at an address neither before the n cycles from one state to the other nor after them, it stood there before none of them
abbrev pub NoneMissed : ℕ → State → State → Type 0
NoneMissed n s t = (addr : ℕ) → (stands_at addr s && stands_at addr t) ≡ false → StandsNotAt addr n s
