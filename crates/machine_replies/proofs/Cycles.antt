-- What a cycle of a run tells has words and bytes where the trace's lines have them.
use Rattle.std.proofs.Common.{◌≡◌, ℕ, zero, ◌+◌, ◌%◌, ◌/◌, ◌<◌, List, [], ◌∷◌, ◌++◌, refl, sym, subst, arith, Bool, true, false, cond, ◌==◌, ◌&&◌, nat_lt, Option, Some, None}
use Rattle.std.specs.Option.{option_or}
use Rattle.sm_words.specs.Words.{reg, word_at, IsCore}
use Rattle.sm_words.specs.declared.width.Width.{Width}
use Rattle.sm_words.specs.declared.width.Width.TheVariants.{Byte, Word}
use Rattle.insn_decode.specs.Code.{insn_of, length_of}
use Rattle.insn_decode.specs.declared.insn.Insn.{Insn}
use Rattle.insn_decode.specs.declared.insn.Insn.TheVariants.{Two, One, Jump, Reti, Unit as UnitOp}
use Rattle.schedule_file.specs.declared.Entry.{Entry as Scheduled}
use Rattle.mod_layout.specs.Table.{place_of}
use Rattle.mod_layout.specs.declared.Place.{Place}
use Rattle.mod_layout.specs.declared.Place.TheVariants.{Entry}
use Rattle.pc_access.specs.Accesses.{reads_of, writes_of}
use Rattle.mod_layout.specs.First.{first_in}
use Rattle.pc_access.specs.Rights.{right}
use Rattle.pc_access.specs.declared.Access.{Access}
use Rattle.pc_access.specs.declared.Denied.{Denied}
use Rattle.pc_access.specs.declared.Rule.{Rule}
use Rattle.pc_access.specs.declared.Stop.{Stop}
use Rattle.std.specs.Int.{bit_at}
use Rattle.devices.specs.declared.registers.TheConstants.{LINES_ENABLE, SERIAL_CONTROL, SERIAL_DATA, TIMER_CONTROL, TIMER_COUNT, TIMER_COUNT_HIGH, TIMER_LIMIT, TIMER_LIMIT_HIGH, TIMER_VECTOR}
use Rattle.devices.specs.Devices.{with_low, with_high, Devices, write_of, after_read, accepted, line_of, line_raised}
use Rattle.devices.proofs.Passing.{timer_line, serial_line}
use Rattle.image_text.specs.Image.{Image, IsImage}
use Rattle.reg_backup.specs.Held.{held_ids}
use Rattle.reg_backup.specs.declared.backup.Phase.{Phase}
use Rattle.reg_backup.specs.declared.backup.Phase.TheVariants.{Run}
use Rattle.reg_backup.specs.declared.frames.Frame.{Frame}
use Rattle.reg_backup.specs.declared.frames.Frame.TheVariants.{Plain, Module as Held}
use Rattle.cpu_step.specs.Asked.{asks, effect, table_after}
use Rattle.cpu_step.specs.Fetched.{insn_at, later_word}
use Rattle.tracer.specs.Laws.{IsWord, IsEvent}
use Rattle.tracer.specs.declared.Event.{Event}
use Rattle.written_machine.specs.Cycle.{Step, told, stopped, pc_of, byte_of, settle, ticked, due, arrive_inside, arrive_outside, push_both, pushes, port_of, who_of, perform, attempt, returned_by, reti_by, act_on, act_home, act_first, act, is_home, enter_at, enter, fetch, begin, turn, sent_event, counted_by, move, cycle, unless}
use Rattle.written_machine.specs.Ports.{Port, read_in, read_byte, read_width, write_in, write_byte, write_width, take_reads, put_writes}
use Rattle.written_machine.specs.State.{State}
use Rattle.written_machine.specs.View.{at}
use Rattle.written_machine.proofs.Stops.{cycle_by}
use Rattle.written_machine.specs.Passing.{asleep}
use Rattle.run_laws.proofs.Cases.{turn_at, turn_unless, turn_is}
use Rattle.run_laws.proofs.Each.{Each}
use Rattle.run_laws.proofs.Filled.{Filled, settle_filled, ticked_filled, enter_filled, filled_at}
use Rattle.run_laws.proofs.Fine.{Fine, FineFrame, Small, settled_fine, ticked_fine, enter_fine, table_fine, fine_at}
use Rattle.run_laws.proofs.Passes.{ticked_sent}
use Rattle.run_laws.proofs.Ways.{settle_ways}
use Rattle.machine_replies.proofs.Asking.{IsWordPlace, place_word, IsWordDenied, denied_word, right_word, IsWordInsn, insn_word, asks_word, own_module}

abbrev AreEvents : List Event → Type 0
AreEvents es = Each IsEvent es

both : (xs ys : List Event) → AreEvents xs → AreEvents ys → AreEvents (xs ++ ys)
both [] ys h g = g
both (x ∷ xs) ys h g = (h.0, both xs ys h.1 g)

-- ---- stops

stopped_event : (rule : Rule) (addr id : ℕ) (s : State) → IsCore s.core → IsWord addr → IsWord id → AreEvents (stopped rule addr id s).events
stopped_event rule addr id s c h g = (record { pc = c.words 0; addr = h; «module» = g }, tt)

pc_word : (s : State) → IsCore s.core → IsWord (pc_of s)
pc_word s c = c.words 0

-- ---- an instruction

made_event : (c : Bool) (n : ℕ) → IsWord n → AreEvents (cond c [] (Event.Protect n ∷ []))
made_event true n h = tt
made_event false n h = (h, tt)

perform_event : (insn : Insn) (s : State) → Fine s → AreEvents (perform insn s).events
unfolding perform
perform_event insn s f = made_event _ (table_after s.table insn s.core).given (table_fine insn s.table s.core (f.table_ok, f.given_small)).1

unless_event : (d : Option Denied) (insn : Insn) (s : State) → Fine s → IsWordDenied d → AreEvents (unless d s (perform insn s)).events
unless_event (Some d) insn s f h = stopped_event d.rule d.addr d.«module» s f.core_ok h.0 h.1
unless_event None insn s f h = perform_event insn s f

attempt_event : (insn : Insn) (s : State) → Fine s → IsWordInsn insn → AreEvents (attempt insn s).events
unfolding attempt
attempt_event insn s f h =
    unless_event (first_in (right s.table s.active (held_ids s.frames)) (asks (who_of s) insn s.core)) insn s f
    (denied_word s.table s.active (held_ids s.frames) (asks (who_of s) insn s.core) (f.table_ok, f.given_small)
    (asks_word (who_of s) insn s.core f.core_ok f.table_ok (own_module s.table s.active f.table_ok) h))

returned_event : (o : Option Stop) (t : Step) → AreEvents t.events → AreEvents (returned_by o t).events
returned_event (Some stop) t h = h
returned_event None t h = (tt, h)

reti_event : (fs : List Frame) (s : State) → Fine s → AreEvents (reti_by None fs s).events
reti_event [] s f = returned_event (attempt Reti s).state.stop (attempt Reti s) (attempt_event Reti s f tt)
reti_event (Plain ∷ fs) s f = returned_event (attempt Reti s).state.stop (attempt Reti s) (attempt_event Reti s f tt)
reti_event (Held b ∷ fs) s f = tt

reti_of_event : (a : Option ℕ) (s : State) → Fine s → AreEvents (reti_by a s.frames s).events
reti_of_event (Some id) s f = stopped_event _ (pc_of s) 0 s f.core_ok (pc_word s f.core_ok) (omega arith)
reti_of_event None s f = reti_event s.frames s f

act_by_event : (insn : Insn) (s : State) → Fine s → IsWordInsn insn → AreEvents (act_on (Some insn) s).events
act_by_event Reti s f h = reti_of_event s.active s f
act_by_event (Two op w a b) s f h = attempt_event (Two op w a b) s f h
act_by_event (One op w a) s f h = attempt_event (One op w a) s f h
act_by_event (Jump c o) s f h = attempt_event (Jump c o) s f h
act_by_event (UnitOp n) s f h = attempt_event (UnitOp n) s f h

act_on_event : (o : Option Insn) (s : State) → Fine s → ((insn : Insn) → o ≡ Some insn → IsWordInsn insn) → AreEvents (act_on o s).events
act_on_event None s f h = stopped_event _ (pc_of s) 0 s f.core_ok (pc_word s f.core_ok) (omega arith)
act_on_event (Some insn) s f h = act_by_event insn s f (h insn refl)

-- a word of memory, or 0
memory_word : (s : State) (a : ℕ) → Filled s.memory → IsWord (word_at (byte_of s) a)
memory_word s a m = let low = m.bytes a in let high = m.bytes (a + 1) in omega arith

later_is_word : (b : Bool) (w : ℕ) → IsWord w → IsWord (cond b w 0)
later_is_word true w h = h
later_is_word false w h = omega arith

act_home_event : (b : Bool) (n : ℕ) (s : State) → Fine s → Filled s.memory → AreEvents (act_home b n s).events
act_home_event false n s f m = stopped_event _ (pc_of s) 0 s f.core_ok (pc_word s f.core_ok) (omega arith)
act_home_event true n s f m =
    act_on_event (insn_at (byte_of s) (pc_of s) n) s f
    (λ insn e. insn_word _ (later_word (byte_of s) (pc_of s) n 1) (later_word (byte_of s) (pc_of s) n 2) insn e
    (later_is_word (nat_lt 1 n) _ (memory_word s _ m)) (later_is_word (nat_lt 2 n) _ (memory_word s _ m)))

act_first_event : (o : Option Insn) (s : State) → Fine s → Filled s.memory → AreEvents (act_first o s).events
act_first_event None s f m = stopped_event _ (pc_of s) 0 s f.core_ok (pc_word s f.core_ok) (omega arith)
act_first_event (Some first) s f m = act_home_event (is_home s.table s.active (pc_of s) (length_of first)) (length_of first) s f m

act_event : (s : State) → Fine s → Filled s.memory → AreEvents (act s).events
unfolding act
act_event s f m = act_first_event (insn_of (word_at (byte_of s) (pc_of s)) 0 0) s f m

enter_at_event : (p : Place) (a : Option ℕ) (left : ℕ) (s : State) → IsWordPlace p → IsWord left → AreEvents (enter_at p a left s).events
enter_at_event (Entry id) None left s h g = ((h, g), tt)
enter_at_event _ _ left s h g = tt

enter_event : (left : ℕ) (s : State) → Fine s → IsWord left → AreEvents (enter left s).events
unfolding enter
enter_event left s f g = enter_at_event (place_of s.table (pc_of s)) s.active left s (place_word s.table (pc_of s) (f.table_ok, f.given_small)) g

begin_by_event : (d : Option Denied) (left : ℕ) (s : State) → Fine s → Filled s.memory → IsWord left → IsWordDenied d → AreEvents (unless d s (let e = enter left s in told e.events (act e.state))).events
begin_by_event (Some d) left s f m g h = stopped_event d.rule d.addr d.«module» s f.core_ok h.0 h.1
begin_by_event None left s f m g h =
    both (enter left s).events (act (enter left s).state).events (enter_event left s f g) (act_event (enter left s).state (enter_fine left s f) (enter_filled left s m))

begin_event : (left : ℕ) (s : State) → Fine s → Filled s.memory → IsWord left → AreEvents (begin left s).events
unfolding begin
begin_event left s f m g =
    begin_by_event (right s.table s.active (held_ids s.frames) (fetch s)) left s f m g
    (right_word s.table s.active (held_ids s.frames) (fetch s) (f.table_ok, f.given_small) (pc_word s f.core_ok))

-- ---- arrivals

-- a vector, if there is one, is a byte
abbrev IsMaybeByte : Option ℕ → Type 0
IsMaybeByte None = Unit {0}
IsMaybeByte (Some v) = v < 256

if_byte : (b : Bool) (v : ℕ) (o : Option ℕ) → v < 256 → IsMaybeByte o → IsMaybeByte (cond b (Some v) o)
if_byte true v o h g = h
if_byte false v o h g = g

or_byte : (o p : Option ℕ) → IsMaybeByte o → IsMaybeByte p → IsMaybeByte (option_or o p)
or_byte (Some v) p h g = h
or_byte None p h g = g

line_byte : (d : Devices) → IsMaybeByte (line_of d)
unfolding line_of
line_byte d =
    or_byte (timer_line d) _ (if_byte (d.alarm && d.flag) _ None (omega arith) tt)
    (or_byte (serial_line d) _ (if_byte (d.listening && d.got) _ None (omega arith) tt)
    (if_byte (line_raised d 3) _ _ (omega arith) (if_byte (line_raised d 2) _ _ (omega arith)
    (if_byte (line_raised d 1) _ _ (omega arith) (if_byte (line_raised d 0) _ None (omega arith) tt)))))

vector_byte : (b : Bool) (o : Option ℕ) → IsMaybeByte o → IsMaybeByte (cond b o None)
vector_byte true o h = h
vector_byte false o h = tt

due_byte : (s : State) → IsMaybeByte (due s)
unfolding due
due_byte s = vector_byte _ (line_of s.devices) (line_byte s.devices)

push_event : (d : Option Denied) (v : ℕ) (s : State) → Fine s → v < 256 → IsWordDenied d → AreEvents (unless d s (push_both v s)).events
push_event (Some d) v s f g h = stopped_event d.rule d.addr d.«module» s f.core_ok h.0 h.1
push_event None v s f g h = (g, tt)

outside_event : (v : ℕ) (s : State) → Fine s → v < 256 → AreEvents (arrive_outside v s).events
unfolding arrive_outside
outside_event v s f g =
    push_event (first_in (right s.table None (held_ids s.frames)) (pushes s)) v s f g
    (denied_word s.table None (held_ids s.frames) (pushes s) (f.table_ok, f.given_small) (omega arith, (omega arith, tt)))

inside_event : (v id rest : ℕ) (s : State) → v < 256 → IsWord id → AreEvents (arrive_inside v id rest s).events
unfolding arrive_inside
inside_event v id rest s g h = ((h, g), tt)

-- ---- the case of a cycle

asleep_event : (b : Bool) (left : ℕ) (s : State) → Fine s → Filled s.memory → IsWord left → AreEvents (turn_unless b left s).events
asleep_event true left s f m g = tt
asleep_event false left s f m g = begin_event left s f m g

case_event : (d o : Option ℕ) (p : Phase) (left : ℕ) (s : State) → Fine s → Filled s.memory → IsWord left → IsMaybeByte d → s.active ≡ o → AreEvents (turn_at d o p left s).events
case_event (Some v) (Some id) (Run r) left s f m g h e = inside_event v id r s h (subst Small e f.active_small)
case_event (Some v) None (Run zero) left s f m g h e = outside_event v s f h
case_event None None (Run zero) left s f m g h e = asleep_event (asleep s) left s f m g
case_event None (Some id) (Run zero) left s f m g h e = begin_event left s f m g
case_event _ _ _ left s f m g _ e = tt

turn_event : (left : ℕ) (s : State) → Fine s → Filled s.memory → IsWord left → AreEvents (turn left s).events
turn_event left s f m g = subst (λ t. AreEvents t.events) (sym (turn_is left s)) (case_event (due s) s.active s.phase left s f m g (due_byte s) refl)

-- ---- settling

settle_event : (s : State) → Fine s → AreEvents (settle s).events
settle_event s f =
    settle_ways s (λ u. AreEvents u.events) tt (λ b fs e. ((subst (Each FineFrame) e f.frames_ok).0.1, tt)) (λ id x a o. (subst Small a f.active_small, tt))
    (λ e. (pc_word s f.core_ok, tt)) (λ id a. ((subst Small a f.active_small, pc_word s f.core_ok), tt))

-- ---- the byte sent

-- where the byte that was sent was a byte, it is one
abbrev Sends : Devices → Devices → Type 0
Sends d e = IsMaybeByte d.sent → IsMaybeByte e.sent

cond_sent : (b : Bool) (e x : Devices) → IsMaybeByte e.sent → IsMaybeByte x.sent → IsMaybeByte (cond b e x).sent
cond_sent true e x h g = h
cond_sent false e x h g = g

write_sends : (d : Devices) (a b : ℕ) → b < 256 → Sends d (write_of d a b)
unfolding write_of
write_sends d a b h k =
    let x0 : Devices = cond (a == TIMER_LIMIT_HIGH) (record d { limit = with_high d.limit b }) d in
    let h0 : IsMaybeByte x0.sent = cond_sent (a == TIMER_LIMIT_HIGH) (record d { limit = with_high d.limit b }) d k k in
    let x1 : Devices = cond (a == TIMER_LIMIT) (record d { limit = with_low d.limit b }) x0 in
    let h1 : IsMaybeByte x1.sent = cond_sent (a == TIMER_LIMIT) (record d { limit = with_low d.limit b }) x0 k h0 in
    let x2 : Devices = cond (a == TIMER_COUNT_HIGH) (record d { count = with_high d.count b }) x1 in
    let h2 : IsMaybeByte x2.sent = cond_sent (a == TIMER_COUNT_HIGH) (record d { count = with_high d.count b }) x1 k h1 in
    let x3 : Devices = cond (a == TIMER_COUNT) (record d { count = with_low d.count b }) x2 in
    let h3 : IsMaybeByte x3.sent = cond_sent (a == TIMER_COUNT) (record d { count = with_low d.count b }) x2 k h2 in
    let x4 : Devices = cond (a == TIMER_CONTROL) (record d { running = bit_at b 0 == 1; alarm = bit_at b 1 == 1; flag = bit_at b 2 == 1 }) x3 in
    let h4 : IsMaybeByte x4.sent = cond_sent (a == TIMER_CONTROL) (record d { running = bit_at b 0 == 1; alarm = bit_at b 1 == 1; flag = bit_at b 2 == 1 }) x3 k h3 in
    let x5 : Devices = cond (a == SERIAL_DATA) (record d { sent = Some b }) x4 in
    let h5 : IsMaybeByte x5.sent = cond_sent (a == SERIAL_DATA) (record d { sent = Some b }) x4 h h4 in
    let x6 : Devices = cond (a == SERIAL_CONTROL) (record d { listening = bit_at b 0 == 1 }) x5 in
    let h6 : IsMaybeByte x6.sent = cond_sent (a == SERIAL_CONTROL) (record d { listening = bit_at b 0 == 1 }) x5 k h5 in
    cond_sent (a == LINES_ENABLE) (record d { enabled = b % 16 }) x6 k h6

read_sends : (d : Devices) (a : ℕ) → Sends d (after_read d a)
unfolding after_read
read_sends d a k = cond_sent (a == SERIAL_DATA) (record d { got = false; lost = false }) d k k

read_in_sends : (b : Bool) (p : Port) (a : ℕ) → Sends p.devices (read_in b p a).port.devices
read_in_sends true p a = read_sends p.devices a
read_in_sends false p a = λ k. k

read_width_sends : (w : Width) (p : Port) (a : ℕ) → Sends p.devices (read_width w p a).port.devices
read_width_sends Byte p a = read_in_sends (nat_lt a 512) p a
read_width_sends Word p a = λ k. read_in_sends (nat_lt (a + 1) 512) (read_byte p a).port (a + 1) (read_in_sends (nat_lt a 512) p a k)

reads_send : (xs : List Access) (p : Port) → Sends p.devices (take_reads p xs).port.devices
reads_send [] p = λ k. k
reads_send (x ∷ xs) p = λ k. reads_send xs (read_width x.width p x.addr).port (read_width_sends x.width p x.addr k)

write_in_sends : (b : Bool) (p : Port) (a v : ℕ) → v < 256 → Sends p.devices (write_in b p a v).devices
write_in_sends true p a v h = write_sends p.devices a v h
write_in_sends false p a v h = λ k. k

write_width_sends : (w : Width) (p : Port) (a v : ℕ) → Sends p.devices (write_width w p a v).devices
write_width_sends Byte p a v = write_in_sends (nat_lt a 512) p a (v % 256) (omega arith)
write_width_sends Word p a v = λ k.
    write_in_sends (nat_lt (a + 1) 512) (write_byte p a (v % 256)) (a + 1) (v / 256 % 256) (omega arith) (write_in_sends (nat_lt a 512) p a (v % 256) (omega arith) k)

puts_send : (xs : List Access) (p : Port) (vs : List ℕ) → Sends p.devices (put_writes p xs vs).devices
puts_send [] p vs = λ k. k
puts_send (x ∷ xs) p [] = λ k. k
puts_send (x ∷ xs) p (v ∷ vs) = λ k. puts_send xs (write_width x.width p x.addr v) vs (write_width_sends x.width p x.addr v k)

accepted_sends : (d : Devices) (v : ℕ) → Sends d (accepted d v)
unfolding accepted
accepted_sends d v k = cond_sent (v == TIMER_VECTOR) (record d { flag = false }) d k k

-- the same between states
abbrev Goes : State → State → Type 0
Goes s t = Sends s.devices t.devices

perform_sends : (insn : Insn) (s : State) → Goes s (perform insn s).state
unfolding perform
perform_sends insn s = λ k.
    let xs = asks (who_of s) insn s.core in
    let g = take_reads (port_of s) (reads_of xs) in
    puts_send (writes_of xs) g.port (effect (who_of s) insn s.core g.value).stored (reads_send (reads_of xs) (port_of s) k)

unless_sends : (d : Option Denied) (insn : Insn) (s : State) → Goes s (unless d s (perform insn s)).state
unless_sends (Some d) insn s = λ k. k
unless_sends None insn s = perform_sends insn s

attempt_sends : (insn : Insn) (s : State) → Goes s (attempt insn s).state
unfolding attempt
attempt_sends insn s = unless_sends (first_in (right s.table s.active (held_ids s.frames)) (asks (who_of s) insn s.core)) insn s

returned_sends : (o : Option Stop) (t : Step) → IsMaybeByte t.state.devices.sent → IsMaybeByte (returned_by o t).state.devices.sent
returned_sends (Some stop) t h = h
returned_sends None t h = h

reti_sends : (fs : List Frame) (s : State) → Goes s (reti_by None fs s).state
reti_sends [] s = λ k. returned_sends (attempt Reti s).state.stop (attempt Reti s) (attempt_sends Reti s k)
reti_sends (Plain ∷ fs) s = λ k. returned_sends (attempt Reti s).state.stop (attempt Reti s) (attempt_sends Reti s k)
reti_sends (Held b ∷ fs) s = λ k. k

reti_of_sends : (a : Option ℕ) (s : State) → Goes s (reti_by a s.frames s).state
reti_of_sends (Some id) s = λ k. k
reti_of_sends None s = reti_sends s.frames s

act_by_sends : (insn : Insn) (s : State) → Goes s (act_on (Some insn) s).state
act_by_sends Reti s = reti_of_sends s.active s
act_by_sends (Two op w a b) s = attempt_sends (Two op w a b) s
act_by_sends (One op w a) s = attempt_sends (One op w a) s
act_by_sends (Jump c o) s = attempt_sends (Jump c o) s
act_by_sends (UnitOp n) s = attempt_sends (UnitOp n) s

act_on_sends : (o : Option Insn) (s : State) → Goes s (act_on o s).state
act_on_sends None s = λ k. k
act_on_sends (Some insn) s = act_by_sends insn s

act_home_sends : (b : Bool) (n : ℕ) (s : State) → Goes s (act_home b n s).state
act_home_sends false n s = λ k. k
act_home_sends true n s = act_on_sends (insn_at (byte_of s) (pc_of s) n) s

act_first_sends : (o : Option Insn) (s : State) → Goes s (act_first o s).state
act_first_sends None s = λ k. k
act_first_sends (Some first) s = act_home_sends (is_home s.table s.active (pc_of s) (length_of first)) (length_of first) s

act_sends : (s : State) → Goes s (act s).state
unfolding act
act_sends s = act_first_sends (insn_of (word_at (byte_of s) (pc_of s)) 0 0) s

enter_at_sends : (p : Place) (a : Option ℕ) (left : ℕ) (s : State) → Goes s (enter_at p a left s).state
enter_at_sends (Entry id) None left s = λ k. k
enter_at_sends _ _ left s = λ k. k

enter_sends : (left : ℕ) (s : State) → Goes s (enter left s).state
unfolding enter
enter_sends left s = enter_at_sends (place_of s.table (pc_of s)) s.active left s

begin_by_sends : (d : Option Denied) (left : ℕ) (s : State) → Goes s (unless d s (let e = enter left s in told e.events (act e.state))).state
begin_by_sends (Some d) left s = λ k. k
begin_by_sends None left s = λ k. act_sends (enter left s).state (enter_sends left s k)

begin_sends : (left : ℕ) (s : State) → Goes s (begin left s).state
unfolding begin
begin_sends left s = begin_by_sends (right s.table s.active (held_ids s.frames) (fetch s)) left s

asleep_sends : (b : Bool) (left : ℕ) (s : State) → Goes s (turn_unless b left s).state
asleep_sends true left s = λ k. k
asleep_sends false left s = begin_sends left s

push_sends : (d : Option Denied) (v : ℕ) (s : State) → Goes s (unless d s (push_both v s)).state
push_sends (Some d) v s = λ k. k
push_sends None v s = λ k.
    let p = put_writes (port_of s) (pushes s) (reg s.core 0 ∷ reg s.core 2 ∷ []) in
    accepted_sends p.devices v (puts_send (pushes s) (port_of s) (reg s.core 0 ∷ reg s.core 2 ∷ []) k)

outside_sends : (v : ℕ) (s : State) → Goes s (arrive_outside v s).state
unfolding arrive_outside
outside_sends v s = push_sends (first_in (right s.table None (held_ids s.frames)) (pushes s)) v s

inside_sends : (v id rest : ℕ) (s : State) → Goes s (arrive_inside v id rest s).state
unfolding arrive_inside
inside_sends v id rest s = accepted_sends s.devices v

case_sends : (d o : Option ℕ) (p : Phase) (left : ℕ) (s : State) → Goes s (turn_at d o p left s).state
case_sends (Some v) (Some id) (Run r) left s = inside_sends v id r s
case_sends (Some v) None (Run zero) left s = outside_sends v s
case_sends None None (Run zero) left s = asleep_sends (asleep s) left s
case_sends None (Some id) (Run zero) left s = begin_sends left s
case_sends _ _ _ left s = λ k. k

turn_sends : (left : ℕ) (s : State) → Goes s (turn left s).state
turn_sends left s = subst (λ t. Goes s t.state) (sym (turn_is left s)) (case_sends (due s) s.active s.phase left s)

settle_sends : (s : State) → Goes s (settle s).state
settle_sends s = settle_ways s (λ u. Goes s u.state) (λ k. k) (λ b fs e k. k) (λ id x a o k. k) (λ e k. k) (λ id a k. k)

ticked_none : (s : State) → IsMaybeByte (ticked s).devices.sent
unfolding ticked
ticked_none s = subst IsMaybeByte (sym (ticked_sent s.devices s.cycle)) tt

-- ---- a cycle

sent_is_event : (o : Option ℕ) → IsMaybeByte o → AreEvents (sent_event o)
sent_is_event None h = tt
sent_is_event (Some b) h = (h, tt)

counted_event : (o : Option Stop) (t : Step) → AreEvents t.events → IsMaybeByte t.state.devices.sent → AreEvents (counted_by o t).events
counted_event (Some stop) t h g = h
counted_event None t h g = both t.events (sent_event t.state.devices.sent) h (sent_is_event t.state.devices.sent g)

move_event : (s : State) → Fine s → Filled s.memory → AreEvents (move s).events
unfolding move
move_event s f m =
    let u = settle (ticked s) in
    let fine = settled_fine s f in
    let filled = settle_filled (ticked s) (ticked_filled s m) in
    let t = turn u.left u.state in
    counted_event t.state.stop (told u.events t)
    (both u.events t.events (settle_event (ticked s) (ticked_fine s f)) (turn_event u.left u.state fine.fine filled fine.left_small))
    (turn_sends u.left u.state (settle_sends (ticked s) (ticked_none s)))

cycle_event : (o : Option Stop) (s : State) → Fine s → Filled s.memory → AreEvents (cycle_by o s).events
cycle_event (Some stop) s f m = tt
cycle_event None s f m = move_event s f m

pub cycle_events : (a : Image) (schedule : List Scheduled) (k : ℕ) → IsImage a → Each IsEvent (cycle (at a schedule k)).events
cycle_events a schedule k ok = cycle_event (at a schedule k).stop (at a schedule k) (fine_at a schedule k ok) (filled_at a schedule k ok)
