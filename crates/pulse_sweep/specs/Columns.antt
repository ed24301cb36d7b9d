-- What a run says of a pulse in cycle c: when the handler begins, and when next a module is left and a byte is sent.
use Rattle.std.specs.Prelude.{ℕ, zero, suc, ◌+◌, ◌-◌, nat_le, if◌then◌else◌, Option, Some, None}
use Rattle.std.specs.Option.{option_or}
use Rattle.mod_layout.specs.First.{first_in}
use Rattle.irq_padding.specs.declared.TheConstants.{PADDING, ARRIVAL}
use Rattle.tracer.specs.declared.Event.{Event}
use Rattle.tracer.specs.declared.Event.TheVariants.{Leave, Hide, Irq, Out}
use Rattle.written_machine.specs.Cycle.{cycle, after_cycles}
use Rattle.written_machine.specs.State.{State}
use Rattle.pulse_sweep.specs.declared.columns.Columns.{Columns}

-- what an event of cycle k says: how many cycles after the pulse the handler begins to which it leads
abbrev pub begins : ℕ → ℕ → Event → Option ℕ
begins c k (Irq vector) = Some (k - c + ARRIVAL + 1)
begins c k (Hide id vector) = Some (k - c + PADDING + 1)
begins c k _ = None

-- that a module is left
abbrev pub leaves : ℕ → Event → Option ℕ
leaves k (Leave id pc) = Some k
leaves k _ = None

-- that a byte is sent
abbrev pub sends : ℕ → Event → Option ℕ
sends k (Out byte) = Some k
sends k _ = None

-- the first number that the next cycle's events give, from cycle c on
abbrev pub first_now : (ℕ → Event → Option ℕ) → ℕ → State → Option ℕ
first_now f c s = if nat_le c s.cycle then first_in (f s.cycle) (cycle s).events else None

-- that those of the next n cycles give
abbrev pub first_after : (ℕ → Event → Option ℕ) → ℕ → State → ℕ → Option ℕ
first_after f c s zero = None
first_after f c s (suc n) = option_or (first_after f c s n) (first_now f c (after_cycles s n))

abbrev pub columns_after : ℕ → State → ℕ → Columns
columns_after c s n = record { begins = first_after (begins c) c s n; leaves = first_after leaves c s n; sends = first_after sends c s n }
