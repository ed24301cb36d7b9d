-- The laws of the written machine. Each is what a function of this crate ensures.
use Rattle.std.specs.Prelude.{◌≡◌, ◌≢◌, ℕ, suc, ◌+◌, List, filter, true, false, is_some, None}
use Rattle.schedule_file.specs.declared.Entry.{Entry}
use Rattle.mod_layout.specs.Table.{module_of}
use Rattle.mod_layout.specs.declared.Module.{Module}
use Rattle.pc_access.specs.Rights.{is_id}
use Rattle.image_text.specs.Image.{Image}
use Rattle.cpu_step.specs.Lone.{outcome, lone_after, blank}
use Rattle.written_machine.specs.Cycle.{cycle, after_cycles}
use Rattle.written_machine.specs.Peers.{PeersBut, Peers}
use Rattle.written_machine.specs.Script.{play, led, moves}
use Rattle.written_machine.specs.Standing.{stands_at}
use Rattle.written_machine.specs.Trace.{end_line_of, lines_after, trace}
use Rattle.written_machine.specs.View.{view_of, at}
use Rattle.written_machine.specs.declared.Hidden.TheVariants.{All as AllHidden, Only}
use Rattle.written_machine.specs.declared.ScriptLine.{ScriptLine}
use Rattle.isolation.specs.Moments.{moment}
use Rattle.run_laws.specs.Events.{Enters, EndsCall, ends_call}
use Rattle.isolation.specs.Calls.{AnswersAgree, UnderWay, entry_state, entry_job, entry_lone, worked, NotBroken, Takes, Stands, away}
use Rattle.sm_words.specs.Status.{is_gie}

-- ---- two runs of peers, on every schedule

-- The views are equal in every cycle, where the one module alone is hidden.
abbrev pub SameViews : Type 0
SameViews = (a b : Image) (m : ℕ) (schedule : List Entry) (k : ℕ) → Peers a b m →
    view_of (at a schedule k) (Only m) ≡ view_of (at b schedule k) (Only m)

-- The events of every cycle are equal.
abbrev pub SameEvents : Type 0
SameEvents = (a b : Image) (m : ℕ) (schedule : List Entry) (k : ℕ) → Peers a b m →
    (cycle (at a schedule k)).events ≡ (cycle (at b schedule k)).events

-- While the module is not active, phase and what is settled next are equal.
abbrev pub SamePhases : Type 0
SamePhases = (a b : Image) (m : ℕ) (schedule : List Entry) (k : ℕ) → Peers a b m → is_id m (at a schedule k).active ≡ false →
    ((at a schedule k).phase ≡ (at b schedule k).phase) × ((at a schedule k).after ≡ (at b schedule k).after)

-- The caller is equal in every cycle, whichever module is active.
abbrev pub SameCallers : Type 0
SameCallers = (a b : Image) (m : ℕ) (schedule : List Entry) (k : ℕ) → Peers a b m →
    (at a schedule k).caller ≡ (at b schedule k).caller

-- Whether interrupts are enabled is equal in every cycle.
abbrev pub SameGie : Type 0
SameGie = (a b : Image) (m : ℕ) (schedule : List Entry) (k : ℕ) → Peers a b m →
    is_gie (at a schedule k).core ≡ is_gie (at b schedule k).core

-- Once the module has left the table, the machines are in one state.
abbrev pub SameOnceGone : Type 0
SameOnceGone = (a b : Image) (m : ℕ) (schedule : List Entry) (k : ℕ) → Peers a b m → module_of m (at a schedule k).table ≡ None →
    at a schedule k ≡ at b schedule k

-- ---- what peers write

-- The outside trace is one text, whatever the schedule and the number of cycles.
abbrev pub SameTraces : Type 0
SameTraces = (a b : Image) (m : ℕ) (schedule : List Entry) (n : ℕ) → Peers a b m → trace a schedule n ≡ trace b schedule n

-- The views are equal in every cycle, where every module is hidden: the registers outside, and every byte in no module's data.
abbrev pub SameOutsideViews : Type 0
SameOutsideViews = (a b : Image) (m : ℕ) (schedule : List Entry) (k : ℕ) → Peers a b m →
    view_of (at a schedule k) AllHidden ≡ view_of (at b schedule k) AllHidden

-- The outside is about to begin the instruction at an address in both, or in neither.
abbrev pub SameStanding : Type 0
SameStanding = (a b : Image) (m : ℕ) (schedule : List Entry) (k addr : ℕ) → Peers a b m →
    stands_at addr (at a schedule k) ≡ stands_at addr (at b schedule k)

-- The lines of the next n cycles are one text, after any number of cycles.
abbrev pub SameLines : Type 0
SameLines = (a b : Image) (m : ℕ) (schedule : List Entry) (k n : ℕ) → Peers a b m →
    lines_after (at a schedule k) n ≡ lines_after (at b schedule k) n

-- So is the end line.
abbrev pub SameEnds : Type 0
SameEnds = (a b : Image) (m : ℕ) (schedule : List Entry) (k : ℕ) → Peers a b m →
    end_line_of (at a schedule k) ≡ end_line_of (at b schedule k)

-- A script writes one text, after any number of cycles, with marks after any numbers of cycles, and however many marks it may use.
abbrev pub SamePlays : Type 0
SamePlays = (a b : Image) (m : ℕ) (schedule : List Entry) (most k : ℕ) (ks : List ℕ) (script : List ScriptLine) → Peers a b m →
    play (moment a schedule most k ks) script ≡ play (moment b schedule most k ks) script

-- And it leads both to moments after the same cycles, with marks after the same, from which they play the next script alike.
abbrev pub SameLeads : Type 0
SameLeads = (a b : Image) (m : ℕ) (schedule : List Entry) (most k : ℕ) (ks : List ℕ) (script : List ScriptLine) → Peers a b m →
    (let x = moment a schedule most k ks in
    let y = moment b schedule most k ks in
    (after : ℕ) × (marked : List ℕ) × (led x (moves x script) ≡ moment a schedule most after marked) × (led y (moves y script) ≡ moment b schedule most after marked))

-- ---- two runs of images that are peers but for answers, up to the first call that ends with another answer

-- While the answers agree, the views are equal, where the one module alone is hidden.
abbrev pub ViewsWhile : Type 0
ViewsWhile = (a b : Image) (m : ℕ) (answers : List ℕ) (schedule : List Entry) (n : ℕ) → PeersBut a b m answers → AnswersAgree a b m answers schedule n →
    view_of (at a schedule n) (Only m) ≡ view_of (at b schedule n) (Only m)

-- The events of a cycle are equal, if it does not end a call with another answer either.
abbrev pub EventsWhile : Type 0
EventsWhile = (a b : Image) (m : ℕ) (answers : List ℕ) (schedule : List Entry) (n : ℕ) → PeersBut a b m answers → AnswersAgree a b m answers schedule (suc n) →
    (cycle (at a schedule n)).events ≡ (cycle (at b schedule n)).events

-- The caller is equal, whichever module is active,
abbrev pub CallersWhile : Type 0
CallersWhile = (a b : Image) (m : ℕ) (answers : List ℕ) (schedule : List Entry) (n : ℕ) → PeersBut a b m answers →
    AnswersAgree a b m answers schedule n → (at a schedule n).caller ≡ (at b schedule n).caller

-- and whether interrupts are enabled.
abbrev pub GieWhile : Type 0
GieWhile = (a b : Image) (m : ℕ) (answers : List ℕ) (schedule : List Entry) (n : ℕ) → PeersBut a b m answers →
    AnswersAgree a b m answers schedule n → is_gie (at a schedule n).core ≡ is_gie (at b schedule n).core

-- While the module is not active, phase and what is settled next are equal.
abbrev pub PhasesWhile : Type 0
PhasesWhile = (a b : Image) (m : ℕ) (answers : List ℕ) (schedule : List Entry) (n : ℕ) → PeersBut a b m answers →
    AnswersAgree a b m answers schedule n → is_id m (at a schedule n).active ≡ false →
    ((at a schedule n).phase ≡ (at b schedule n).phase) × ((at a schedule n).after ≡ (at b schedule n).after)

-- The outside trace is one text.
abbrev pub TracesWhile : Type 0
TracesWhile = (a b : Image) (m : ℕ) (answers : List ℕ) (schedule : List Entry) (n : ℕ) → PeersBut a b m answers → AnswersAgree a b m answers schedule n →
    trace a schedule n ≡ trace b schedule n

-- The next cycle ends a call of the module in both, with the same event, or in neither: whatever the answers,
abbrev pub EndsAlike : Type 0
EndsAlike = (a b : Image) (m : ℕ) (answers : List ℕ) (schedule : List Entry) (n : ℕ) → PeersBut a b m answers → AnswersAgree a b m answers schedule n →
    filter (ends_call m) (cycle (at a schedule n)).events ≡ filter (ends_call m) (cycle (at b schedule n)).events

-- and then all registers but the answers are equal.
abbrev pub AnswersAlone : Type 0
AnswersAlone = (a b : Image) (m : ℕ) (answers : List ℕ) (schedule : List Entry) (n : ℕ) → PeersBut a b m answers → AnswersAgree a b m answers schedule n →
    EndsCall m (cycle (at a schedule n)).events → blank answers (at a schedule n).core ≡ blank answers (at b schedule n).core

-- Two modules that answer, where image c is between a and b: it has b's data in m, and a's in p. While the answers of both agree in a and
-- b, the views are equal, where every module is hidden,
abbrev pub ViewsOfTwo : Type 0
ViewsOfTwo = (a c b : Image) (m p : ℕ) (answers replies : List ℕ) (schedule : List Entry) (n : ℕ) → m ≢ p → PeersBut a c m answers → PeersBut c b p replies →
    AnswersAgree a b m answers schedule n → AnswersAgree a b p replies schedule n → view_of (at a schedule n) AllHidden ≡ view_of (at b schedule n) AllHidden

-- and the outside trace is one text.
abbrev pub TracesOfTwo : Type 0
TracesOfTwo = (a c b : Image) (m p : ℕ) (answers replies : List ℕ) (schedule : List Entry) (n : ℕ) → m ≢ p → PeersBut a c m answers → PeersBut c b p replies →
    AnswersAgree a b m answers schedule n → AnswersAgree a b p replies schedule n → trace a schedule n ≡ trace b schedule n

-- ---- one run of one image

-- A module that is entered is in the table.
abbrev pub EnteredIsKnown : Type 0
EnteredIsKnown = (a : Image) (m : ℕ) (schedule : List Entry) (k from : ℕ) → Enters m from (cycle (at a schedule k)).events →
    is_some (module_of m (entry_state a schedule k).table) ≡ true

-- Transparency. Let a module be entered in cycle k, and neither left nor closed in the n cycles after it; let c be the
-- number of these cycles, the entry's own among them, that ended in a wait or an instruction of the module. Where the
-- call by itself is not broken within c cycles, the module stands, active or in its one frame, where it stands by itself
-- after c cycles: with these registers, this rest, this closing and these data. This holds whatever was interrupted,
-- padded and resumed, at whatever depth, and whatever devices, handlers, other modules and unit instructions did.
abbrev pub Transparency : Type 0
Transparency = (a : Image) (schedule : List Entry) (m : ℕ) (owner : Module) (k from n : ℕ) → UnderWay a schedule m owner k from n →
    (let c = 1 + worked m (at a schedule (suc k)) n in
    let j = entry_job a schedule owner k from in
    let l = entry_lone a schedule owner k from in
    NotBroken (outcome j c l) → Stands m owner (after_cycles (at a schedule (suc k)) n) (lone_after j l c))

-- Cost. If the module is then left or closed in the cycle after those, its call by itself takes c cycles, and the number of that
-- cycle less the entry's is c, and for each hide between them the cycles from the hide to the module's next resume.
abbrev pub Cost : Type 0
Cost = (a : Image) (schedule : List Entry) (m : ℕ) (owner : Module) (k from n : ℕ) → UnderWay a schedule m owner k from n →
    EndsCall m (cycle (after_cycles (at a schedule (suc k)) n)).events →
    (let s = at a schedule (suc k) in
    let c = 1 + worked m s n in
    let j = entry_job a schedule owner k from in
    let l = entry_lone a schedule owner k from in
    NotBroken (outcome j c l) →
    Takes c (outcome j c l) × ((away m s n).since ≡ None) × ((after_cycles s n).cycle ≡ (at a schedule k).cycle + (c + (away m s n).sum)))
