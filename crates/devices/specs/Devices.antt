-- The state of the devices: four lines, a serial device and a timer, moved by a schedule, cycle by cycle.
use Rattle.std.specs.Prelude.{ℕ, ◌+◌, ◌-◌, ◌*◌, ◌/◌, ◌%◌, ◌^◌, List, [], ◌∷◌, map, find, ◌==◌, nat_le, if◌then◌else◌, Bool, true, false, ◌&&◌, ◌||◌, Option, Some, None}
use Rattle.std.specs.Int.{bit_at}
use Rattle.std.specs.Option.{option_or}
use Rattle.schedule_file.specs.declared.Entry.{Entry}
use Rattle.schedule_file.specs.declared.What.{What}
use Rattle.schedule_file.specs.declared.What.TheVariants.{Serial, Up, Down}
use Rattle.devices.specs.declared.registers.TheConstants.{LINES_ENABLE, LINES_LEVELS, SERIAL_CONTROL, SERIAL_DATA, TIMER_CONTROL, TIMER_COUNT, TIMER_COUNT_HIGH, TIMER_LIMIT, TIMER_LIMIT_HIGH, LINES_VECTOR, SERIAL_VECTOR, TIMER_VECTOR}

pub record Devices : Type 0 where
  pub enabled : ℕ  -- the lines that may interrupt, a bit each
  pub levels : ℕ  -- the lines that are up, a bit each
  pub listening : Bool  -- whether the serial device may interrupt
  pub got : Bool  -- whether it holds a byte that was not read
  pub lost : Bool  -- whether a byte came before the one before it was read
  pub byte : ℕ  -- the last byte that it received
  pub running : Bool  -- whether the timer counts
  pub alarm : Bool  -- whether it may interrupt
  pub flag : Bool  -- whether its count came round
  pub count : ℕ
  pub limit : ℕ
  pub schedule : List Entry
  pub sent : Option ℕ  -- the byte that was sent in this cycle

-- the devices of cycle 0
abbrev pub silent : List Entry → Devices
silent schedule = record { enabled = 0; levels = 0; listening = false; got = false; lost = false; byte = 0; running = false; alarm = false; flag = false; count = 0; limit = 0; schedule = schedule; sent = None }

-- the number with bit n set to b
abbrev pub with_bit : ℕ → ℕ → ℕ → ℕ
with_bit v n b = v % 2 ^ n + 2 ^ n * b + 2 ^ (n + 1) * (v / 2 ^ (n + 1))

-- a byte that was not read yet is lost to the one that comes; a line keeps its level until it moves
abbrev pub happens : What → Devices → Devices
happens (Serial b) d = record d { got = true; lost = d.lost || d.got; byte = b }
happens (Up n) d = record d { levels = with_bit d.levels n 1 }
happens (Down n) d = record d { levels = with_bit d.levels n 0 }

-- the entries of cycle k act in the list's order
abbrev pub scheduled : List Entry → ℕ → Devices → Devices
scheduled [] k d = d
scheduled (e ∷ es) k d = scheduled es k (if e.cycle == k then happens e.what d else d)

-- one tick of a timer that runs: a count at the limit comes round
abbrev pub counts : Devices → Devices
counts d =
    if d.running then (if d.count == d.limit then record d { count = 0; flag = true } else record d { count = (d.count + 1) % 65536 })
    else d

-- what was sent before is over, the schedule acts, the timer counts
unfoldable pub ticked_devices : Devices → ℕ → Devices
ticked_devices d k = counts (scheduled d.schedule k (record d { sent = None }))

-- a line raises its vector while it is enabled and up
abbrev pub line_raised : Devices → ℕ → Bool
line_raised d n = (bit_at d.enabled n == 1) && (bit_at d.levels n == 1)

-- the vector of the last line that raises its own
abbrev pub highest_line : Devices → Option ℕ
highest_line d = find (λ v. line_raised d (v - LINES_VECTOR)) (map (λ n. LINES_VECTOR + n) (3 ∷ 2 ∷ 1 ∷ 0 ∷ []))

-- the highest raised vector: the timer's, then the serial device's, then those of the lines
unfoldable pub line_of : Devices → Option ℕ
line_of d =
    option_or (if d.alarm && d.flag then Some TIMER_VECTOR else None)
    (option_or (if d.listening && d.got then Some SERIAL_VECTOR else None) (highest_line d))

-- acceptance of the timer's vector clears its flag
unfoldable pub accepted : Devices → ℕ → Devices
accepted d v = if v == TIMER_VECTOR then record d { flag = false } else d

-- a bit of a control register
abbrev pub bit_if : Bool → ℕ → ℕ
bit_if b weight = if b then weight else 0

-- the byte at an address: of the lines, the serial device or the timer
unfoldable pub read_of : Devices → ℕ → ℕ
read_of d a =
    if a == LINES_ENABLE then d.enabled
    else (if a == LINES_LEVELS then d.levels
    else (if a == SERIAL_CONTROL then bit_if d.listening 1 + bit_if d.got 2 + bit_if d.lost 4
    else (if a == SERIAL_DATA then d.byte
    else (if a == TIMER_CONTROL then bit_if d.running 1 + bit_if d.alarm 2 + bit_if d.flag 4
    else (if a == TIMER_COUNT then d.count % 256
    else (if a == TIMER_COUNT_HIGH then d.count / 256
    else (if a == TIMER_LIMIT then d.limit % 256
    else (if a == TIMER_LIMIT_HIGH then d.limit / 256 else 0))))))))

-- reading the received byte clears that it is there and that one was lost
unfoldable pub after_read : Devices → ℕ → Devices
after_read d a = if a == SERIAL_DATA then record d { got = false; lost = false } else d

-- a word with its low byte, or its high byte, replaced
abbrev pub with_low : ℕ → ℕ → ℕ
with_low w b = 256 * (w / 256) + b

abbrev pub with_high : ℕ → ℕ → ℕ
with_high w b = w % 256 + 256 * b

-- a byte written at an address
unfoldable pub write_of : Devices → ℕ → ℕ → Devices
write_of d a b =
    if a == LINES_ENABLE then record d { enabled = b % 16 }
    else (if a == SERIAL_CONTROL then record d { listening = bit_at b 0 == 1 }
    else (if a == SERIAL_DATA then record d { sent = Some b }
    else (if a == TIMER_CONTROL then record d { running = bit_at b 0 == 1; alarm = bit_at b 1 == 1; flag = bit_at b 2 == 1 }
    else (if a == TIMER_COUNT then record d { count = with_low d.count b }
    else (if a == TIMER_COUNT_HIGH then record d { count = with_high d.count b }
    else (if a == TIMER_LIMIT then record d { limit = with_low d.limit b }
    else (if a == TIMER_LIMIT_HIGH then record d { limit = with_high d.limit b } else d)))))))

-- the addresses of each device
abbrev pub is_lines : ℕ → Bool
is_lines a = nat_le LINES_ENABLE a && nat_le a LINES_LEVELS

abbrev pub is_serial : ℕ → Bool
is_serial a = nat_le SERIAL_CONTROL a && nat_le a SERIAL_DATA

abbrev pub is_timer : ℕ → Bool
is_timer a = nat_le TIMER_CONTROL a && nat_le a TIMER_LIMIT_HIGH
