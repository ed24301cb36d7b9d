-- One cycle of the machine, by its steps.
use Rattle.std.specs.Prelude.{ℕ, zero, suc, ◌+◌, ◌-◌, ◌*◌, List, [], ◌∷◌, ◌++◌, drop, length, map, option_to_list, slice_index, ◌==◌, nat_lt, if◌then◌else◌, Bool, true, false, ◌&&◌, ◌||◌, not, Option, Some, None, unwrap_or, replicate}
use Rattle.std.specs.Option.{option_map_or}
use Rattle.sm_words.specs.Status.{interrupted_sr, is_cpu_off, is_gie}
use Rattle.sm_words.specs.Words.{reg, put, sub16, word_at, cleared}
use Rattle.sm_words.specs.declared.registers.TheConstants.{PC, SP, SR}
use Rattle.sm_words.specs.declared.width.Width.TheVariants.{Word}
use Rattle.insn_decode.specs.Code.{begun_by, length_of}
use Rattle.insn_decode.specs.declared.insn.Insn.{Insn}
use Rattle.insn_decode.specs.declared.insn.Insn.TheVariants.{Reti}
use Rattle.mod_layout.specs.Table.{Table, holds, own_of, size_of, place_of, without}
use Rattle.mod_layout.specs.declared.TheConstants.{FIRST_VECTOR}
use Rattle.mod_layout.specs.declared.Module.{Module}
use Rattle.mod_layout.specs.declared.Place.{Place}
use Rattle.mod_layout.specs.declared.Place.TheVariants.{Open, Entry, Text}
use Rattle.pc_access.specs.Accesses.{reads_of, writes_of}
use Rattle.mod_layout.specs.First.{first_in}
use Rattle.pc_access.specs.Rights.{right}
use Rattle.pc_access.specs.declared.Access.{Access}
use Rattle.pc_access.specs.declared.Denied.{Denied}
use Rattle.pc_access.specs.declared.Kind.TheVariants.{Fetch, Write}
use Rattle.pc_access.specs.declared.Rule.{Rule}
use Rattle.pc_access.specs.declared.Rule.TheVariants.{RetiInside, Straddle, Illegal}
use Rattle.pc_access.specs.declared.Stop.{Stop}
use Rattle.devices.specs.Devices.{ticked_devices, line_of, accepted}
use Rattle.irq_padding.specs.Padding.{padding}
use Rattle.irq_padding.specs.Turns.{Turn, Pads, InterruptsModule, InterruptsOutside, Continues, Sleeps, Begins, turn_of}
use Rattle.reg_backup.specs.Held.{held_ids}
use Rattle.reg_backup.specs.Saved.{closing_after, saved}
use Rattle.reg_backup.specs.declared.backup.After.{After}
use Rattle.reg_backup.specs.declared.backup.After.TheVariants.{Next, Handler, Resume, Close}
use Rattle.reg_backup.specs.declared.backup.Phase.{Phase}
use Rattle.reg_backup.specs.declared.backup.Phase.TheVariants.{Run, Pad}
use Rattle.reg_backup.specs.declared.frames.TheConstants.{MOST_FRAMES}
use Rattle.irq_padding.specs.declared.TheConstants.{PADDING, ARRIVAL, RESUMPTION}
use Rattle.reg_backup.specs.declared.frames.Frame.{Frame}
use Rattle.reg_backup.specs.declared.frames.Frame.TheVariants.{Plain, Module as Held}
use Rattle.attest.specs.Units.{Doer}
use Rattle.cpu_step.specs.Asked.{asks, effect, table_after}
use Rattle.cpu_step.specs.Fetched.{insn_at}
use Rattle.cpu_step.specs.Plan.{past}
use Rattle.tracer.specs.declared.Event.{Event}
use Rattle.tracer.specs.declared.Event.TheVariants.{Resume as Resumed, Close as Closed, Handler as Handling, Leave as Left, Hide as Hid, Irq, Enter as Entered, Reti as Returned, Protect as Protected, Out as Sent, Stop as Stopped}
use Rattle.written_machine.specs.Ports.{Port, take_reads, put_writes}
use Rattle.written_machine.specs.State.{State}

-- a state with the events that led to it
pub record Step : Type 0 where
  pub state : State
  pub events : List Event

-- a state without events
abbrev pub quiet : State → Step
quiet s = record { state = s; events = [] }

-- a state that one event led to
abbrev pub telling : Event → State → Step
telling e s = record { state = s; events = e ∷ [] }

-- these events came before
abbrev pub told : List Event → Step → Step
told es t = record { state = t.state; events = es ++ t.events }

-- PC
abbrev pub pc_of : State → ℕ
pc_of s = reg s.core PC

-- the machine stops by a rule, with the PC as it stands
abbrev pub stopped : Rule → ℕ → ℕ → State → Step
stopped rule addr id s =
    let stop : Stop = record { rule = rule; pc = pc_of s; addr = addr; «module» = id } in
    telling (Stopped stop) (record s { stop = Some stop })

-- it stops by a refused access
abbrev pub denied : Denied → State → Step
denied d s = stopped d.rule d.addr d.module s

-- a refusal stops the machine, and nothing is done; where there is none, it goes on
abbrev pub unless : Option Denied → State → Step → Step
unless (Some d) s next = denied d s
unless None s next = next

-- ---- the devices

-- the devices move: the schedule's entries of this cycle, then the timer
unfoldable pub ticked : State → State
ticked s = record s { devices = ticked_devices s.devices s.cycle }

-- ---- what is settled when the rest is 0

-- a settled state, with the module that was left, or 0
pub record Settled : Type 0 where
  pub state : State
  pub events : List Event
  pub left : ℕ

-- nothing to settle
abbrev pub unsettled : State → Settled
unsettled s = record { state = s; events = []; left = 0 }

-- one thing is settled, and no module is left
abbrev pub settled : Event → State → Settled
settled e s = record { state = s; events = e ∷ []; left = 0 }

-- Resume: the newest frame, a module's, is taken off, and its module goes on with its rest
abbrev pub resume_from : List Frame → State → Option Settled
resume_from (Held b ∷ fs) s =
    Some (settled (Resumed b.module)
    (record s { core = b.core; active = Some b.module; caller = b.caller; frames = fs; phase = Run b.rest; after = closing_after b.closing }))
resume_from _ s = None

-- Close: the active module's data become 0, and it leaves the table
abbrev pub close_of : Option ℕ → Option Module → State → Option Settled
close_of (Some id) (Some m) s =
    Some (settled (Closed id)
    (record s { memory = cleared m.ram.start (size_of m.ram) s.memory; table = without id s.table; active = None; after = Next }))
close_of _ _ s = None

-- whether the module's text holds the address
abbrev pub in_text : Option Module → ℕ → Bool
in_text own a = option_map_or (λ m. holds m.text a) own false

-- Next: an active module whose text does not hold PC is left
abbrev pub leave_if : Bool → Option ℕ → State → Option Settled
leave_if false (Some id) s = Some (record { state = record s { active = None }; events = Left id (pc_of s) ∷ []; left = id })
leave_if _ _ s = None

-- by what is to be settled; None where nothing is
abbrev pub settle_by : After → State → Option Settled
settle_by Resume s = resume_from s.frames s
settle_by Close s = close_of s.active (own_of s.active s.table) s
settle_by Handler s = Some (settled (Handling (pc_of s)) (record s { after = Next }))
settle_by Next s = leave_if (in_text (own_of s.active s.table) (pc_of s)) s.active s

-- only where no cycle is left
abbrev pub settle_in : Phase → State → Option Settled
settle_in (Run zero) s = settle_by s.after s
settle_in _ s = None

-- what is settled in this cycle; where nothing is, the state stays
unfoldable pub settle : State → Settled
settle s = unwrap_or (settle_in s.phase s) (unsettled s)

-- ---- arrivals

-- whether there is room for a frame
abbrev pub has_room : State → Bool
has_room s = nat_lt (length s.frames) MOST_FRAMES

-- the vector that arrives where the phase lets it: the raised one, where GIE is set and there is room for its frame
unfoldable pub due : State → Option ℕ
due s = if is_gie s.core && has_room s then line_of s.devices else None

-- the byte at an address
abbrev pub byte_of : State → ℕ → ℕ
byte_of s a = slice_index s.memory a

-- the word of a vector, which is the address to go on at
abbrev pub vector_in : List ℕ → ℕ → ℕ
vector_in mem v = word_at (λ a. slice_index mem a) (FIRST_VECTOR + 2 * v)

-- a module is interrupted: a frame takes it, the registers are 0 but for PC and SP, and the padding begins
unfoldable pub arrive_inside : ℕ → ℕ → ℕ → State → Step
arrive_inside v id rest s =
    let b = saved id s.caller s.core rest s.after in
    let core = put (put (replicate 16 0) PC (vector_in s.memory v)) SP s.handler_sp in
    telling (Hid id v)
    (record s { core = core; active = None; frames = Held b ∷ s.frames; phase = Pad PADDING; after = Next; devices = accepted s.devices v })

-- the writes of PC and then SR below SP
abbrev pub pushes : State → List Access
pushes s =
    record { kind = Write; addr = sub16 (reg s.core SP) 2; width = Word }
    ∷ record { kind = Write; addr = sub16 (reg s.core SP) 4; width = Word }
    ∷ []

-- a Plain frame joins as the newest, where a frame is held
abbrev pub plain_if : List Frame → List Frame
plain_if [] = []
plain_if (f ∷ fs) = Plain ∷ f ∷ fs

-- both are pushed, then the vector's word is read, then the devices are told
abbrev pub push_both : ℕ → State → Step
push_both v s =
    let p = put_writes (record { devices = s.devices; memory = s.memory }) (pushes s) (reg s.core PC ∷ reg s.core SR ∷ []) in
    let core = put (put (put s.core SP (sub16 (reg s.core SP) 4)) SR (interrupted_sr (reg s.core SR))) PC (vector_in p.memory v) in
    telling (Irq v)
    (record s { core = core; memory = p.memory; frames = plain_if s.frames; phase = Run ARRIVAL; devices = accepted p.devices v })

-- the outside is interrupted, where both pushes are allowed
unfoldable pub arrive_outside : ℕ → State → Step
arrive_outside v s = unless (first_in (right s.table None (held_ids s.frames)) (pushes s)) s (push_both v s)

-- ---- an instruction begins

-- a later word's place: outside all sections, or in the active module's text
abbrev pub at_home : Option ℕ → Place → Bool
at_home None Open = true
at_home (Some id) (Text x) = x == id
at_home (Some id) (Entry x) = x == id
at_home _ _ = false

-- the k-th of n words, if there is one, is below 0x10000 and where its instruction is
abbrev pub home_word : Table → Option ℕ → ℕ → ℕ → ℕ → Bool
home_word t active pc n k = not (nat_lt k n) || (nat_lt (pc + 2 * k) 0x10000 && at_home active (place_of t (pc + 2 * k)))

-- so are all later words
abbrev pub is_home : Table → Option ℕ → ℕ → ℕ → Bool
is_home t active pc n = home_word t active pc n 1 && home_word t active pc n 2

-- the one who does an instruction
abbrev pub who_of : State → Doer
who_of s = record { own = own_of s.active s.table; caller = s.caller; table = s.table; key = s.key }

-- devices and memory
abbrev pub port_of : State → Port
port_of s = record { devices = s.devices; memory = s.memory }

-- the accesses and changes of an instruction, where nothing is refused: its reads, its effect, its writes, what is
-- settled once its cycles have passed, and the module that it made
unfoldable pub perform : Insn → State → Step
perform insn s =
    let accesses = asks (who_of s) insn s.core in
    let g = take_reads (port_of s) (reads_of accesses) in
    let e = effect (who_of s) insn s.core g.value in
    let p = put_writes g.port (writes_of accesses) e.stored in
    let table = table_after s.table insn s.core in
    record {
      state = record s { core = e.core; memory = p.memory; devices = p.devices; table = table; phase = Run (e.cycles - 1); after = closing_after e.closing };
      events = if table.given == s.table.given then [] else Protected table.given ∷ [];
    }

-- an instruction whose accesses are checked in their order before any is done
unfoldable pub attempt : Insn → State → Step
attempt insn s =
    unless (first_in (right s.table s.active (held_ids s.frames)) (asks (who_of s) insn s.core)) s (perform insn s)

-- the newest frame, a Plain one, goes, unless the machine stopped
abbrev pub returned_by : Option Stop → Step → Step
returned_by (Some stop) t = t
returned_by None t = record { state = record t.state { frames = drop 1 t.state.frames }; events = Returned ∷ t.events }

-- RETI, by the active module and the frames: inside a module it stops the machine; with a module in the newest
-- frame it pops nothing, takes 5 cycles and is settled by Resume
abbrev pub reti_by : Option ℕ → List Frame → State → Step
reti_by (Some id) frames s = stopped RetiInside (pc_of s) 0 s
reti_by None (Held b ∷ fs) s = quiet (record s { core = past Reti s.core; phase = Run RESUMPTION; after = Resume })
reti_by None _ s = let t = attempt Reti s in returned_by t.state.stop t

-- by the instruction, where there is one
abbrev pub act_on : Option Insn → State → Step
act_on None s = stopped Illegal (pc_of s) 0 s
act_on (Some Reti) s = reti_by s.active s.frames s
act_on (Some insn) s = attempt insn s

-- where all its words are at home
abbrev pub act_home : Bool → ℕ → State → Step
act_home false n s = stopped Straddle (pc_of s) 0 s
act_home true n s = act_on (insn_at (byte_of s) (pc_of s) n) s

-- the first word tells whether it is in the table, and the number of words
abbrev pub act_first : Option Insn → State → Step
act_first None s = stopped Illegal (pc_of s) 0 s
act_first (Some first) s = act_home (is_home s.table s.active (pc_of s) (length_of first)) (length_of first) s

-- the instruction at PC, once its fetch is allowed and a module that it enters is active
unfoldable pub act : State → Step
act s = act_first (begun_by (word_at (byte_of s) (pc_of s))) s

-- the module at whose entry PC is, where none is active, becomes active
abbrev pub enter_at : Place → Option ℕ → ℕ → State → Step
enter_at (Entry id) None left s = telling (Entered id left) (record s { active = Some id; caller = left; after = Next })
enter_at _ _ left s = quiet s

-- the entry at PC, with the module left in this cycle as the caller
unfoldable pub enter : ℕ → State → Step
enter left s = enter_at (place_of s.table (pc_of s)) s.active left s

-- the fetch at PC
abbrev pub fetch : State → Access
fetch s = record { kind = Fetch; addr = pc_of s; width = Word }

-- an instruction begins: its fetch is checked, then a module may be entered, and the instruction is done
unfoldable pub begin : ℕ → State → Step
begin left s =
    let e = enter left s in
    unless (right s.table s.active (held_ids s.frames) (fetch s)) s (told e.events (act e.state))

-- ---- what a cycle ends in

-- with so many cycles of padding left; with none the handler is settled
abbrev pub padded : ℕ → State → State
padded left s = let p = padding left in record s { phase = p.0; after = p.1 }

-- what a settled cycle ends in
abbrev pub case_of : State → Turn
case_of s = turn_of s.phase (due s) s.active (is_cpu_off s.core)

-- by what it is, where left is the module left in this cycle, or 0
abbrev pub turn_by : Turn → ℕ → State → Step
turn_by (Pads n) left s = quiet (padded n s)
turn_by (InterruptsModule vector id rest) left s = arrive_inside vector id rest s
turn_by (InterruptsOutside vector) left s = arrive_outside vector s
turn_by (Continues rest) left s = quiet (record s { phase = Run rest })
turn_by Sleeps left s = quiet s
turn_by Begins left s = begin left s

-- the end of a settled cycle
unfoldable pub turn : ℕ → State → Step
turn left s = turn_by (case_of s) left s

-- the byte sent in this cycle, before a stop's line
abbrev pub sent_event : Option ℕ → List Event
sent_event sent = map Sent (option_to_list sent)

-- the cycle number rises unless the machine stopped
abbrev pub counted_by : Option Stop → Step → Step
counted_by (Some stop) t = t
counted_by None t = record { state = record t.state { cycle = t.state.cycle + 1 }; events = t.events ++ sent_event t.state.devices.sent }

-- the steps of a cycle in their order
unfoldable pub move : State → Step
move s =
    let u = settle (ticked s) in
    let t = turn u.left u.state in
    counted_by t.state.stop (told u.events t)

-- a stopped machine changes nothing
abbrev pub cycle : State → Step
cycle s = elim s.stop [ Some stop ↦ quiet s | None ↦ move s ]

-- the state after n cycles
abbrev pub after_cycles : State → ℕ → State
after_cycles s zero = s
after_cycles s (suc n) = (cycle (after_cycles s n)).state
