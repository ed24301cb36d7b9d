-- What the code's own invariants say of: Bus.
use Rattle.std.specs.Prelude.{ℕ, ◌≡◌, List, [], ◌∷◌, nat_lt, if◌then◌else◌, All}
use Rattle.std.specs.List.{prefix_len}
use Rattle.schedule_file.specs.declared.Entry.{Entry}
use Rattle.schedule_file.specs.Entries.{CyclesNeverFall, HasLine}
use Rattle.devices.specs.Devices.{Devices, happens}

-- the entries act up to the first that is not before cycle h
abbrev pub acted_before : ℕ → List Entry → Devices → Devices
acted_before h [] d = d
acted_before h (e ∷ es) d = if nat_lt e.cycle h then acted_before h es (happens e.what d) else d

-- how many entries, from the first on, are before cycle h
abbrev pub past_count : ℕ → List Entry → ℕ
past_count h es = prefix_len (λ e. nat_lt e.cycle h) es

-- just the entries before cycle k have acted
pub record IsDue (es : List Entry) (acted k : ℕ) : Type 0 where
  pub place : acted ≡ past_count k es
  pub falls : CyclesNeverFall es
  pub lines : All HasLine es
