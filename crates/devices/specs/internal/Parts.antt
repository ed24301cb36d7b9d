-- What the code's own invariants say of: Parts.
use Rattle.std.specs.Prelude.{List}
use Rattle.schedule_file.specs.declared.Entry.{Entry}
use Rattle.devices.specs.Devices.{Devices}
use Rattle.devices.specs.Parts.{LinesPart, SerialPart, TimerPart}

-- the three side by side, with a schedule
abbrev pub joined_parts : LinesPart → SerialPart → TimerPart → List Entry → Devices
joined_parts l s t schedule = record { enabled = l.enabled; levels = l.levels; listening = s.listening; got = s.got; lost = s.lost; byte = s.byte; running = t.running; alarm = t.alarm; flag = t.flag; count = t.count; limit = t.limit; schedule = schedule; sent = s.sent }

-- the parts of a whole
abbrev pub lines_part : Devices → LinesPart
lines_part d = record { enabled = d.enabled; levels = d.levels }

abbrev pub serial_part : Devices → SerialPart
serial_part d = record { listening = d.listening; got = d.got; lost = d.lost; byte = d.byte; sent = d.sent }

abbrev pub timer_part : Devices → TimerPart
timer_part d = record { running = d.running; alarm = d.alarm; flag = d.flag; count = d.count; limit = d.limit }
