-- What a cycle tells: of a stop where it stops, and four events at most.
use Rattle.std.proofs.Common.{◌≡◌, ℕ, List, [], ◌∷◌, ◌++◌, refl, sym, ◌∙◌, subst, true, cond, Option, Some, None, ◌≤◌, length, length-append, ap, arith, ◌==◌}
use Rattle.cpu_step.specs.Asked.{table_after}
use Rattle.insn_decode.specs.declared.insn.Insn.TheVariants.{Reti}
use Rattle.run_laws.specs.Events.{stop_in}
use Rattle.pc_access.specs.declared.Stop.{Stop}
use Rattle.std.proofs.lemmas.Bool.Decides.{nat_tests}
use Rattle.tracer.specs.declared.Event.{Event}
use Rattle.written_machine.proofs.Stops.{cycle_by}
use Rattle.written_machine.specs.Cycle.{Step, cycle, told, settle, ticked, arrive_inside, perform, turn, sent_event, counted_by, move}
use Rattle.written_machine.specs.State.{State}
use Rattle.run_laws.proofs.Tame.{settle_same, ticked_stop}
use Rattle.run_laws.proofs.Ways.{perform_tells, sent_tells, EachAct, EachTurn, each_turn, settle_ways}

-- what is told of a stop is where the machine stands
abbrev Tells : Step → Type 0
Tells t = stop_in t.events ≡ t.state.stop

-- nothing is told of a stop
abbrev Silent : List Event → Type 0
Silent es = stop_in es ≡ None

silent_first : (xs ys : List Event) → Silent xs → stop_in (xs ++ ys) ≡ stop_in ys
silent_first [] ys h = refl
silent_first (Event.Stop x ∷ xs) ys h = absurd cc
silent_first (_ ∷ xs) ys h = silent_first xs ys h

-- ---- an instruction
-- from a machine that runs
abbrev Running : State → Step → Type 0
Running s t = s.stop ≡ None → Tells t

acts_tell : EachAct Running
unfolding perform
acts_tell = record {
  stops = λ rule addr id s h. refl;
  performs = λ insn s h. perform_tells Silent refl (λ n. refl) insn s ∙ sym h;
  returns = λ s k h. k h;
  resumes = λ s e h. sym h;
}

-- ---- a turn
turns_tell : EachTurn Running Running
unfolding arrive_inside
turns_tell = record {
  refuses = λ d s h. refl;
  acts = λ s k. k;
  enters = λ left id s free p a k h. k h;
  pads = λ n s p h. sym h;
  waits = λ r s h. sym h;
  sleeps = λ s h. sym h;
  inside = λ v id s d a h. sym h;
  pushes = λ v s d h. sym h;
}

-- ---- settling
settle_silent : (s : State) → Silent (settle s).events
settle_silent s = settle_ways s (λ u. Silent u.events) refl (λ b fs e. refl) (λ id x a o. refl) (λ e. refl) (λ id a. refl)

-- ---- a cycle
counted_tells : (o : Option Stop) (t : Step) → t.state.stop ≡ o → Tells t → Tells (counted_by o t)
counted_tells (Some stop) t e h = h
counted_tells None t e h = silent_first t.events (sent_event t.state.devices.sent) (h ∙ e)
    ∙ sent_tells Silent refl (λ b. refl) t.state.devices.sent ∙ sym e

move_tells : (s : State) → s.stop ≡ None → Tells (move s)
unfolding move
move_tells s h =
    let u = settle (ticked s) in
    let t = turn u.left u.state in
    let g : u.state.stop ≡ None = (settle_same (ticked s)).2 ∙ ticked_stop s ∙ h in
    counted_tells t.state.stop (told u.events t) refl
    (silent_first u.events t.events (settle_silent (ticked s)) ∙ each_turn Running acts_tell Running turns_tell u.left u.state g)

-- a cycle of a machine that runs tells of a stop exactly where it stops, and of which
pub stop_told : (s : State) → s.stop ≡ None → stop_in (cycle s).events ≡ (cycle s).state.stop
stop_told s h = subst (λ o. Tells (cycle_by o s)) (sym h) (move_tells s h)

abbrev AtMost : ℕ → List Event → Type 0
AtMost n es = length es ≤ n

-- ---- an instruction tells at most one
perform_reti : (s : State) → (perform Reti s).events ≡ []
unfolding perform table_after
perform_reti s = let same : (s.table.given == s.table.given) ≡ true = grind (arith, nat_tests) in ap (λ b. cond b [] (Event.Protect s.table.given ∷ [])) same

acts_few : EachAct (λ s t. AtMost 1 t.events)
unfolding perform
acts_few = record {
  stops = λ rule addr id s. omega arith;
  performs = λ insn s. perform_tells (AtMost 1) (omega arith) (λ n. omega arith) insn s;
  returns = λ s h. let e = perform_reti s in omega (arith, ap length e);
  resumes = λ s e. omega arith;
}

-- ---- a turn tells at most two
turns_few : EachTurn (λ s t. AtMost 1 t.events) (λ s t. AtMost 2 t.events)
unfolding arrive_inside
turns_few = record {
  refuses = λ d s. omega arith;
  acts = λ s h. omega (arith, h);
  enters = λ left id s free p a h. omega (arith, h);
  pads = λ n s p. omega arith;
  waits = λ r s. omega arith;
  sleeps = λ s. omega arith;
  inside = λ v id s d a. omega arith;
  pushes = λ v s d. omega arith;
}

-- ---- settling tells at most one
settle_few : (s : State) → AtMost 1 (settle s).events
settle_few s = settle_ways s (λ u. AtMost 1 u.events) (omega arith) (λ b fs e. omega arith) (λ id x a o. omega arith) (λ e. omega arith) (λ id a. omega arith)

counted_few : (o : Option Stop) (es : List Event) (t : Step) → AtMost 1 es → AtMost 2 t.events → AtMost 4 (counted_by o (told es t)).events
counted_few (Some stop) es t h g = omega (arith, length-append es t.events)
counted_few None es t h g =
    let sent = sent_event t.state.devices.sent in
    let x = sent_tells (AtMost 1) (omega arith) (λ b. omega arith) t.state.devices.sent in
    omega (arith, length-append (es ++ t.events) sent, length-append es t.events)

move_few : (s : State) → AtMost 4 (move s).events
unfolding move
move_few s =
    let u = settle (ticked s) in
    let t = turn u.left u.state in
    counted_few t.state.stop u.events t (settle_few (ticked s))
    (each_turn (λ s t. AtMost 1 t.events) acts_few (λ s t. AtMost 2 t.events) turns_few u.left u.state)

-- four at most
pub cycle_few : (o : Option Stop) (s : State) → AtMost 4 (cycle_by o s).events
cycle_few (Some stop) s = omega arith
cycle_few None s = move_few s
