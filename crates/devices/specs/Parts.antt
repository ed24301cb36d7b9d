-- The three devices one by one, and together.
use Rattle.std.specs.Prelude.{ℕ, [], Bool, Option}
use Rattle.devices.specs.Devices.{Devices, silent}

pub record LinesPart : Type 0 where
  pub enabled : ℕ
  pub levels : ℕ

pub record SerialPart : Type 0 where
  pub listening : Bool
  pub got : Bool
  pub lost : Bool
  pub byte : ℕ
  pub sent : Option ℕ

pub record TimerPart : Type 0 where
  pub running : Bool
  pub alarm : Bool
  pub flag : Bool
  pub count : ℕ
  pub limit : ℕ

-- the devices where all but the lines is at rest
abbrev pub lines_alone : LinesPart → Devices
lines_alone l = record (silent []) { enabled = l.enabled; levels = l.levels }

abbrev pub serial_alone : SerialPart → Devices
serial_alone s = record (silent []) { listening = s.listening; got = s.got; lost = s.lost; byte = s.byte; sent = s.sent }

abbrev pub timer_alone : TimerPart → Devices
timer_alone t = record (silent []) { running = t.running; alarm = t.alarm; flag = t.flag; count = t.count; limit = t.limit }
