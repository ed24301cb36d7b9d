-- What the code's own invariants say of: Time.
use Rattle.std.specs.Prelude.{ℕ, zero, suc, ◌-◌}
use Rattle.devices.specs.Devices.{Devices, counts}

-- what n ticks of the timer leave
abbrev pub after_ticks : ℕ → Devices → Devices
after_ticks zero d = d
after_ticks (suc n) d = after_ticks n (counts d)
