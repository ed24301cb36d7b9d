-- The schedule lasts, whatever moves, reads or writes the devices.
use Rattle.std.proofs.Common.{◌≡◌, ℕ, zero, suc, ◌+◌, List, [], ◌∷◌, refl, ◌∙◌, ap, Bool, true, false, cond, ◌==◌, nat_lt, None}
use Rattle.schedule_file.specs.declared.Entry.{Entry}
use Rattle.sm_words.specs.declared.width.Width.{Width}
use Rattle.sm_words.specs.declared.width.Width.TheVariants.{Byte, Word}
use Rattle.sm_words.specs.Words.{low_byte, high_byte}
use Rattle.mod_layout.specs.declared.TheConstants.{DEVICES_END}
use Rattle.pc_access.specs.declared.Access.{Access}
use Rattle.std.specs.Prelude.{if◌then◌else◌, ◌%◌, Some}
use Rattle.std.specs.Int.{bit_at}
use Rattle.devices.specs.declared.registers.TheConstants.{LINES_ENABLE, SERIAL_CONTROL, SERIAL_DATA, TIMER_CONTROL, TIMER_COUNT, TIMER_COUNT_HIGH, TIMER_LIMIT, TIMER_LIMIT_HIGH, TIMER_VECTOR}
use Rattle.devices.specs.Devices.{Devices, with_low, with_high, scheduled, ticked_devices, accepted, after_read, write_of}
use Rattle.devices.specs.Time.{ticked_by}
use Rattle.insn_decode.specs.declared.insn.Insn.{Insn}
use Rattle.attest.specs.Accesses.{reads_of, writes_of}
use Rattle.cpu_step.specs.Effect.{does}
use Rattle.cpu_step.specs.Plan.{plan}
use Rattle.cpu_step.specs.Through.{After as AfterThrough, through}
use Rattle.board.specs.declared.machine.Machine.{Machine}
use Rattle.board.specs.declared.port.Surroundings.{Surroundings}
use Rattle.board.specs.internal.Standing.{Lasting, lasting_of, port_in, answered, after_port_read, after_port_write}
use Rattle.board.proofs.Through.{through_is}
use Rattle.written_machine.specs.Ports.{Port, read_byte, read_in, read_width, take_reads, write_byte, write_in, write_width, put_writes}
use Rattle.devices.proofs.Acting.{scheduled-schedule, counts_by-schedule}

-- ---- a tick

pub ticked_schedule : (d : Devices) (k : ℕ) → (ticked_devices d k).schedule ≡ d.schedule
unfolding ticked_devices
ticked_schedule d k =
    let t = scheduled d.schedule k (record d { sent = None }) in
    counts_by-schedule t.running (t.count == t.limit) t ∙ scheduled-schedule d.schedule k (record d { sent = None })

pub ticked_by_schedule : (n k : ℕ) (d : Devices) → (ticked_by n k d).schedule ≡ d.schedule
ticked_by_schedule zero k d = refl
ticked_by_schedule (suc n) k d = ticked_by_schedule n (k + 1) (ticked_devices d k) ∙ ticked_schedule d k

-- ---- acceptance, reads and writes

same_if : (b : Bool) (x y d : Devices) → x.schedule ≡ d.schedule → y.schedule ≡ d.schedule → (cond b x y).schedule ≡ d.schedule
same_if true x y d e f = e
same_if false x y d e f = f

pub accepted_schedule : (d : Devices) (v : ℕ) → (accepted d v).schedule ≡ d.schedule
unfolding accepted
accepted_schedule d v = same_if (v == TIMER_VECTOR) (record d { flag = false }) d d refl refl

read_schedule : (d : Devices) (a : ℕ) → (after_read d a).schedule ≡ d.schedule
unfolding after_read
read_schedule d a = same_if (a == SERIAL_DATA) (record d { got = false; lost = false }) d d refl refl

pub write_schedule : (d : Devices) (a b : ℕ) → (write_of d a b).schedule ≡ d.schedule
unfolding write_of
write_schedule d a b =
    let past7 : Devices = if a == TIMER_LIMIT_HIGH then record d { limit = with_high d.limit b } else d in
    let past6 : Devices = if a == TIMER_LIMIT then record d { limit = with_low d.limit b } else past7 in
    let past5 : Devices = if a == TIMER_COUNT_HIGH then record d { count = with_high d.count b } else past6 in
    let past4 : Devices = if a == TIMER_COUNT then record d { count = with_low d.count b } else past5 in
    let past3 : Devices = if a == TIMER_CONTROL then record d { running = bit_at b 0 == 1; alarm = bit_at b 1 == 1; flag = bit_at b 2 == 1 } else past4 in
    let past2 : Devices = if a == SERIAL_DATA then record d { sent = Some b } else past3 in
    let past1 : Devices = if a == SERIAL_CONTROL then record d { listening = bit_at b 0 == 1 } else past2 in
    same_if (a == LINES_ENABLE) (record d { enabled = b % 16 }) past1 d refl (same_if (a == SERIAL_CONTROL) (record d { listening = bit_at b 0 == 1 }) past2 d refl (same_if (a == SERIAL_DATA) (record d { sent = Some b }) past3 d refl (same_if (a == TIMER_CONTROL) (record d { running = bit_at b 0 == 1; alarm = bit_at b 1 == 1; flag = bit_at b 2 == 1 }) past4 d refl (same_if (a == TIMER_COUNT) (record d { count = with_low d.count b }) past5 d refl (same_if (a == TIMER_COUNT_HIGH) (record d { count = with_high d.count b }) past6 d refl (same_if (a == TIMER_LIMIT) (record d { limit = with_low d.limit b }) past7 d refl (same_if (a == TIMER_LIMIT_HIGH) (record d { limit = with_high d.limit b }) d d refl refl)))))))

abbrev schedule_of : Port → List Entry
schedule_of p = p.devices.schedule

read_in_schedule : (b : Bool) (p : Port) (a : ℕ) → schedule_of (read_in b p a).port ≡ schedule_of p
read_in_schedule true p a = read_schedule p.devices a
read_in_schedule false p a = refl

read_width_schedule : (w : Width) (p : Port) (a : ℕ) → schedule_of (read_width w p a).port ≡ schedule_of p
read_width_schedule Byte p a = read_in_schedule (nat_lt a DEVICES_END) p a
read_width_schedule Word p a =
    read_in_schedule (nat_lt (a + 1) DEVICES_END) (read_byte p a).port (a + 1) ∙ read_in_schedule (nat_lt a DEVICES_END) p a

pub reads_schedule : (p : Port) (xs : List Access) → schedule_of (take_reads p xs).port ≡ schedule_of p
reads_schedule p [] = refl
reads_schedule p (x ∷ xs) = reads_schedule (read_width x.width p x.addr).port xs ∙ read_width_schedule x.width p x.addr

write_in_schedule : (b : Bool) (p : Port) (a v : ℕ) → schedule_of (write_in b p a v) ≡ schedule_of p
write_in_schedule true p a v = write_schedule p.devices a v
write_in_schedule false p a v = refl

pub write_width_schedule : (w : Width) (p : Port) (a v : ℕ) → schedule_of (write_width w p a v) ≡ schedule_of p
write_width_schedule Byte p a v = write_in_schedule (nat_lt a DEVICES_END) p a (low_byte v)
write_width_schedule Word p a v =
    write_in_schedule (nat_lt (a + 1) DEVICES_END) (write_byte p a (low_byte v)) (a + 1) (high_byte v)
    ∙ write_in_schedule (nat_lt a DEVICES_END) p a (low_byte v)

pub writes_schedule : (p : Port) (xs : List Access) (values : List ℕ) → schedule_of (put_writes p xs values) ≡ schedule_of p
writes_schedule p [] values = refl
writes_schedule p (x ∷ xs) [] = refl
writes_schedule p (x ∷ xs) (v ∷ values) = writes_schedule (write_width x.width p x.addr v) xs values ∙ write_width_schedule x.width p x.addr v

-- ---- machines

-- what lasts of a machine, with this schedule
abbrev at_schedule : Machine → List Entry → Lasting
at_schedule m es = record { fixed = record { schedule = es; key = m.key; handler_sp = m.handler_sp }; marked = m.port.memory.marked; room = m.port.memory.room }

pub lasting_by : (m : Machine) (d : Devices) → d.schedule ≡ m.port.bus.devices.schedule → at_schedule m d.schedule ≡ lasting_of m
lasting_by m d e = ap (at_schedule m) e

-- devices and memory of the same schedule and marks
pub port_lasting : (m : Machine) (p q : Surroundings) → q.bus.devices.schedule ≡ p.bus.devices.schedule → q.memory.marked ≡ p.memory.marked → q.memory.room ≡ p.memory.room →
    lasting_of (record m { port = q }) ≡ lasting_of (record m { port = p })
port_lasting m p q schedule marked room =
    ap (at_schedule (record m { port = q })) schedule
    ∙ ap (λ (bs : List (List ℕ)). let l = lasting_of (record m { port = p }) in let r : Lasting = record { fixed = l.fixed; marked = bs; room = q.memory.room } in r) marked
    ∙ ap (λ (n : ℕ). let l = lasting_of (record m { port = p }) in let r : Lasting = record { fixed = l.fixed; marked = l.marked; room = n } in r) room

-- an instruction
pub executed_lasting : (insn : Insn) (core : List ℕ) (inside : Bool) (m : Machine) (q : Surroundings) → q ≡ (through answered after_port_read after_port_write insn core inside m.port).state →
    lasting_of (record m { port = q }) ≡ lasting_of m
executed_lasting insn core inside m q e =
    let g = take_reads (port_in m.port) (reads_of (plan insn core)) in
    let d = does insn core g.value inside in
    ap (λ (r : Surroundings). lasting_of (record m { port = r })) (e ∙ ap (λ (t : AfterThrough Surroundings). t.state) (through_is insn core inside m.port))
    ∙ ap (at_schedule m) (writes_schedule g.port (writes_of (plan insn core)) d.stored ∙ reads_schedule (port_in m.port) (reads_of (plan insn core)))
