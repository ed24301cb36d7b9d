-- A machine's trace is made of lines that the tool reads.
use Rattle.std.proofs.Common.{◌≡◌, ◌↔◌, ℕ, zero, suc, ◌+◌, ◌^◌, ◌<◌, ◌≤◌, List, [], ◌∷◌, ◌++◌, refl, sym, ap, ◌∙◌, subst, arith, Option, Some, None, Result, Ok}
use Rattle.std.specs.List.{All, flat_map}
use Rattle.std.proofs.lemmas.Grind.{flat_map-append}
use Rattle.sm_words.specs.Words.{IsCore}
use Rattle.schedule_file.specs.declared.Entry.{Entry as Scheduled}
use Rattle.mod_keys.specs.Keys.{module_key, tag_of}
use Rattle.pc_access.specs.declared.Stop.{Stop}
use Rattle.image_text.specs.Image.{Image, IsImage}
use Rattle.tracer.specs.Laws.{IsEvent}
use Rattle.tracer.specs.Lines.{event_line}
use Rattle.tracer.specs.declared.Event.{Event}
use Rattle.written_machine.specs.Cycle.{Step, settle, ticked, told, turn, counted_by, move, cycle, after_cycles}
use Rattle.written_machine.specs.State.{State}
use Rattle.written_machine.specs.Trace.{event_lines, lines_after, end_by, end_line_of}
use Rattle.written_machine.specs.View.{at, boot}
use Rattle.written_machine.proofs.Stops.{cycle_by}
use Rattle.vendor_tool.specs.Laws.{TimedEvent, IsTold, IsEndState, StandsInPlace, events_text, sent_in, sent}
use Rattle.vendor_tool.specs.declared.Judgement.TheVariants.{Genuine}
use Rattle.vendor_tool.specs.Replies.{replies_of}
use Rattle.vendor_tool.specs.Report.{judgement}
use Rattle.vendor_tool.proofs.Judging.{genuine_is_modules}
use Rattle.vendor_tool.proofs.OwnLines.{traces_are_read}
use Rattle.run_laws.proofs.Each.{Each}
use Rattle.run_laws.proofs.Fine.{Small, fine_at}
use Rattle.run_laws.proofs.Tame.{settle_same, ticked_same, turn_same}
use Rattle.machine_replies.specs.Laws.{sent_after, CyclesAreTold, MachineTracesAreRead, GenuineWasSent}
use Rattle.machine_replies.proofs.Cycles.{cycle_events}

all_of : {A : Type 0} (P : A → Type 0) (xs : List A) → Each P xs → All P xs
all_of P [] h k d lt = absurd (omega arith)
all_of P (x ∷ xs) h zero d lt = h.0
all_of P (x ∷ xs) h (suc k) d lt = all_of P xs h.1 k d (omega arith)

-- ---- a cycle's number

counted_most : (o : Option Stop) (t : Step) → (counted_by o t).state.cycle ≤ t.state.cycle + 1
counted_most (Some stop) t = omega arith
counted_most None t = omega arith

move_most : (s : State) → (move s).state.cycle ≤ s.cycle + 1
unfolding move
move_most s =
    let u = settle (ticked s) in
    let t = turn u.left u.state in
    let same : t.state.cycle ≡ s.cycle = turn_same u.left u.state ∙ (settle_same (ticked s)).0 ∙ ticked_same s in
    let most = counted_most t.state.stop (told u.events t) in
    omega arith

cycle_most : (o : Option Stop) (s : State) → (cycle_by o s).state.cycle ≤ s.cycle + 1
cycle_most (Some stop) s = omega arith
cycle_most None s = move_most s

-- stopped or not, the number is at most that of the cycles
number_most : (a : Image) (schedule : List Scheduled) (n : ℕ) → (at a schedule n).cycle ≤ n
number_most a schedule zero = omega arith
number_most a schedule (suc n) =
    let before = number_most a schedule n in
    let one = cycle_most (at a schedule n).stop (at a schedule n) in
    omega arith

-- ---- a run's events

abbrev timed : ℕ → List Event → List TimedEvent
timed c [] = []
timed c (e ∷ es) = record { cycle = c; event = e } ∷ timed c es

timed_text : (c : ℕ) (es : List Event) → events_text (timed c es) ≡ event_lines c es
timed_text c [] = refl
timed_text c (e ∷ es) = ap (λ t. event_line c e ++ t) (timed_text c es)

timed_sent : (c : ℕ) (es : List Event) → sent (timed c es) ≡ flat_map sent_in es
timed_sent c [] = refl
timed_sent c (e ∷ es) = ap (λ t. sent_in e ++ t) (timed_sent c es)

timed_told : (c : ℕ) (es : List Event) → c < 2 ^ 64 → Each IsEvent es → Each IsTold (timed c es)
timed_told c [] low h = tt
timed_told c (e ∷ es) low h = ((low, h.0), timed_told c es low h.1)

abbrev run_events : State → ℕ → List TimedEvent
run_events s zero = []
run_events s (suc n) = let t = after_cycles s n in run_events s n ++ timed t.cycle (cycle t).events

run_text : (s : State) (n : ℕ) → events_text (run_events s n) ≡ lines_after s n
run_text s zero = refl
run_text s (suc n) =
    let t = after_cycles s n in
    flat_map-append (λ (e : TimedEvent). event_line e.cycle e.event) (run_events s n) (timed t.cycle (cycle t).events)
    ∙ ap (λ x. x ++ events_text (timed t.cycle (cycle t).events)) (run_text s n) ∙ ap (λ x. lines_after s n ++ x) (timed_text t.cycle (cycle t).events)

run_sent : (s : State) (n : ℕ) → sent (run_events s n) ≡ sent_after s n
run_sent s zero = refl
run_sent s (suc n) =
    let t = after_cycles s n in
    flat_map-append (λ (e : TimedEvent). sent_in e.event) (run_events s n) (timed t.cycle (cycle t).events)
    ∙ ap (λ x. x ++ sent (timed t.cycle (cycle t).events)) (run_sent s n) ∙ ap (λ x. sent_after s n ++ x) (timed_sent t.cycle (cycle t).events)

both : (xs ys : List TimedEvent) → Each IsTold xs → Each IsTold ys → Each IsTold (xs ++ ys)
both [] ys h g = g
both (x ∷ xs) ys h g = (h.0, both xs ys h.1 g)

run_told : (a : Image) (schedule : List Scheduled) (n : ℕ) → IsImage a → n < 2 ^ 64 → Each IsTold (run_events (boot a schedule) n)
run_told a schedule zero ok low = tt
run_told a schedule (suc n) ok low =
    let t = at a schedule n in
    let number = number_most a schedule n in
    both (run_events (boot a schedule) n) (timed t.cycle (cycle t).events) (run_told a schedule n ok (omega arith))
    (timed_told t.cycle (cycle t).events (omega arith) (cycle_events a schedule n ok))

-- ---- the end

standing_fits : (active : Option ℕ) (core : List ℕ) → Small active → IsCore core → IsEndState (end_by None active core)
standing_fits (Some id) core h c = h
standing_fits None core h c = c.words

end_fits : (stop : Option Stop) (active : Option ℕ) (core : List ℕ) → Small active → IsCore core → IsEndState (end_by stop active core)
end_fits (Some stop) active core h c = tt
end_fits None active core h c = standing_fits active core h c

-- ---- the laws

pub cycles_are_told : CyclesAreTold
cycles_are_told a schedule k ok = all_of IsEvent (cycle (at a schedule k)).events (cycle_events a schedule k ok)

pub machine_traces_are_read : MachineTracesAreRead
machine_traces_are_read a schedule n ok low =
    let s = boot a schedule in
    let last = at a schedule n in
    let fine = fine_at a schedule n ok in
    let number = number_most a schedule n in
    ap (λ t. replies_of (t ++ end_line_of last)) (sym (run_text s n))
    ∙ traces_are_read (run_events s n) last.cycle (end_by last.stop last.active last.core) (all_of IsTold (run_events s n) (run_told a schedule n ok low)) (omega arith)
    (end_fits last.stop last.active last.core fine.active_small fine.core_ok)
    ∙ ap (λ (bytes : List ℕ). Ok bytes) (run_sent s n)

ok_is : {E : Type 0} (xs ys : List ℕ) → (let r : Result (List ℕ) E = Ok xs in r) ≡ Ok ys → xs ≡ ys
ok_is xs ys e = cc

pub genuine_was_sent : GenuineWasSent
genuine_was_sent a schedule n replies node_key text nonce m i ok low read =
    let same : replies ≡ sent_after (boot a schedule) n = ok_is replies (sent_after (boot a schedule) n) (sym read ∙ machine_traces_are_read a schedule n ok low) in
    subst (λ (rs : List ℕ). (judgement (module_key node_key m text) nonce replies i ≡ Genuine) ↔ StandsInPlace rs i (tag_of node_key m text nonce)) same
    (genuine_is_modules node_key text nonce replies m i)
