-- Cycles that only pass: of padding, of the rest of an instruction, and of sleep.
use Rattle.std.specs.Prelude.{◌≡◌, ℕ, ◌+◌, ◌-◌, ◌≤◌, ◌<◌, [], Bool, true, ◌&&◌, if◌then◌else◌, Option, None}
use Rattle.sm_words.specs.Status.{is_cpu_off, is_gie}
use Rattle.devices.specs.Devices.{line_of}
use Rattle.devices.specs.Time.{ticked_by}
use Rattle.irq_padding.specs.Padding.{padding}
use Rattle.reg_backup.specs.declared.backup.After.{After}
use Rattle.reg_backup.specs.declared.backup.After.TheVariants.{Next}
use Rattle.reg_backup.specs.declared.backup.Phase.{Phase}
use Rattle.reg_backup.specs.declared.backup.Phase.TheVariants.{Run, Pad}
use Rattle.written_machine.specs.Cycle.{cycle, after_cycles, has_room}
use Rattle.written_machine.specs.State.{State}

-- whether the processor is off
abbrev pub asleep : State → Bool
asleep s = is_cpu_off s.core

-- the vector that is due once the devices have moved n times
abbrev pub due_after : ℕ → State → Option ℕ
due_after n s = if is_gie s.core && has_room s then line_of (ticked_by n s.cycle s.devices) else None

-- in none of the next n cycles a vector is due
abbrev pub Calm : ℕ → State → Type 0
Calm n s = (m : ℕ) → 0 < m → m ≤ n → due_after m s ≡ None

-- the next n cycles only pass
pub data OnlyPass (n : ℕ) (s : State) : Type 0 where
  -- padding, whatever is raised
  Pads : (left : ℕ) → s.phase ≡ Pad left → n ≤ left → OnlyPass n s
  -- the rest of an instruction outside, whatever is raised
  WaitsOutside : (rest : ℕ) → s.phase ≡ Run rest → n ≤ rest → s.active ≡ None → OnlyPass n s
  -- the rest of an instruction, with no vector due
  Waits : (rest : ℕ) → s.phase ≡ Run rest → n ≤ rest → Calm n s → OnlyPass n s
  -- sleep, with nothing to settle and no vector due
  Sleeps : s.phase ≡ Run 0 → s.after ≡ Next → s.active ≡ None → asleep s ≡ true → Calm n s → OnlyPass n s

-- the phase and what is settled after it, n cycles later
abbrev pub phase_later : ℕ → Phase → After → Phase × After
phase_later n (Pad left) after = padding (left - n)
phase_later n (Run rest) after = (Run (rest - n), after)

-- the state n cycles later, where these only pass: devices, cycle number, padding and rest are moved on, and all else is as it was
abbrev pub passed : ℕ → State → State
passed n s =
    let p = phase_later n s.phase s.after in
    record s { devices = ticked_by n s.cycle s.devices; cycle = s.cycle + n; phase = p.0; after = p.1 }

-- n cycles lead from one state to the other, and tell nothing
pub record Leads (n : ℕ) (s t : State) : Type 0 where
  pub state : t ≡ after_cycles s n
  pub events : (m : ℕ) → m < n → (cycle (after_cycles s m)).events ≡ []
