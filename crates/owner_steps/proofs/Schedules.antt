-- No read of a device looks at the schedule.
use Rattle.std.proofs.Common.{◌≡◌, ℕ, List, ◌==◌, if◌then◌else◌, Bool, true, false, refl}
use Rattle.schedule_file.specs.declared.Entry.{Entry}
use Rattle.devices.specs.Devices.{Devices, after_read, read_of}
use Rattle.devices.specs.declared.registers.TheConstants.{SERIAL_DATA}

pub read_any : (d : Devices) (es : List Entry) (a : ℕ) → read_of (record d { schedule = es }) a ≡ read_of d a
unfolding read_of
read_any d es a = refl

abbrev after_if : Bool → Devices → Devices
after_if b d = if b then record d { got = false; lost = false } else d

after_parts : (b : Bool) (d : Devices) (es : List Entry) → after_if b (record d { schedule = es }) ≡ record (after_if b d) { schedule = es }
after_parts true d es = refl
after_parts false d es = refl

pub after_any : (d : Devices) (es : List Entry) (a : ℕ) → after_read (record d { schedule = es }) a ≡ record (after_read d a) { schedule = es }
unfolding after_read
after_any d es a = after_parts (a == SERIAL_DATA) d es
