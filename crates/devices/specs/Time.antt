-- Many ticks, and how long the raised vector stays as it is.
use Rattle.std.specs.Prelude.{ℕ, zero, suc, ◌+◌, ◌-◌, ◌%◌, ◌^◌, min, List, [], ◌∷◌, nat_le, if◌then◌else◌, ◌&&◌, not}
use Rattle.schedule_file.specs.declared.Entry.{Entry}
use Rattle.devices.specs.Devices.{Devices, ticked_devices}

-- what n ticks from cycle k on leave
abbrev pub ticked_by : ℕ → ℕ → Devices → Devices
ticked_by zero k d = d
ticked_by (suc n) k d = ticked_by n (k + 1) (ticked_devices d k)

-- the ticks before the timer's flag may rise: those up to its limit, where it runs, is enabled and its flag is clear
unfoldable pub timer_quiet : Devices → ℕ
timer_quiet d = if d.running && d.alarm && not d.flag then (d.limit + 65536 - d.count) % 65536 else 2 ^ 62

-- the lesser of q and the ticks before the next entry acts, where cycle k is the next one
abbrev pub before_entries : List Entry → ℕ → ℕ → ℕ
before_entries [] k q = q
before_entries (e ∷ es) k q = before_entries es k (if nat_le k e.cycle then min q (e.cycle - k) else q)

-- for so many ticks the raised vector stays as it is
unfoldable pub quiet_of : Devices → ℕ → ℕ
quiet_of d k = before_entries d.schedule k (timer_quiet d)
