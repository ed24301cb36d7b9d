-- Cycles of padding, of the rest of an instruction and of sleep only pass.
use Rattle.std.proofs.Common.{◌≡◌, ℕ, zero, suc, ◌+◌, ◌-◌, ◌≤◌, ◌<◌, ◌==◌, List, [], ◌∷◌, refl, sym, ◌∙◌, ap, subst, arith, Bool, true, Option, Some, None}
use Rattle.devices.specs.Devices.{Devices, ticked_devices, scheduled}
use Rattle.pc_access.specs.declared.Stop.{Stop}
use Rattle.reg_backup.specs.declared.backup.After.{After}
use Rattle.reg_backup.specs.declared.backup.After.TheVariants.{Next}
use Rattle.reg_backup.specs.declared.backup.Phase.{Phase}
use Rattle.reg_backup.specs.declared.backup.Phase.TheVariants.{Run, Pad}
use Rattle.written_machine.proofs.Stops.{cycle_by}
use Rattle.written_machine.specs.Cycle.{Step, Settled, quiet, told, ticked, unsettled, settle, padded, turn, due, sent_event, counted_by, move, cycle, after_cycles}
use Rattle.written_machine.specs.Passing.{due_after, Calm, OnlyPass, Pads, WaitsOutside, Sleeps, passed, Leads, asleep}
use Rattle.written_machine.specs.State.{State}
use Rattle.schedule_file.specs.declared.Entry.{Entry}
use Rattle.schedule_file.specs.declared.What.{What}
use Rattle.schedule_file.specs.declared.What.TheVariants.{Serial}
use Rattle.devices.proofs.Acting.{happens_if, counts_by}
use Rattle.irq_padding.specs.Padding.{padding}
use Rattle.written_machine.specs.Passing.{Waits}
use Rattle.run_laws.proofs.Cases.{turn_at, turn_unless, turn_is}

-- ---- a tick leaves no byte that was sent

happens_sent : (b : Bool) (w : What) (d : Devices) → (happens_if b w d).sent ≡ d.sent
happens_sent true (Serial x) d = refl
happens_sent _ _ d = refl

scheduled_sent : (es : List Entry) (k : ℕ) (d : Devices) → (scheduled es k d).sent ≡ d.sent
scheduled_sent [] k d = refl
scheduled_sent (e ∷ es) k d = scheduled_sent es k (happens_if (e.cycle == k) e.what d) ∙ happens_sent (e.cycle == k) e.what d

counts_sent : (r q : Bool) (d : Devices) → (counts_by r q d).sent ≡ d.sent
counts_sent true true d = refl
counts_sent _ _ d = refl

pub ticked_sent : (d : Devices) (k : ℕ) → (ticked_devices d k).sent ≡ None
unfolding ticked_devices
ticked_sent d k =
    let e = scheduled d.schedule k (record d { sent = None }) in
    counts_sent e.running (e.count == e.limit) e ∙ scheduled_sent d.schedule k (record d { sent = None })

-- ---- one cycle in which nothing is settled and nothing begins

counted_quiet : (o : Option Stop) (z : State) → o ≡ None → z.devices.sent ≡ None → counted_by o (quiet z) ≡ quiet (record z { cycle = z.cycle + 1 })
counted_quiet None z e f = ap (λ (x : Option ℕ). let t : Step = record { state = record z { cycle = z.cycle + 1 }; events = sent_event x } in t) f
counted_quiet (Some stop) z e f = absurd cc

one : (s z : State) → s.stop ≡ None → settle (ticked s) ≡ unsettled (ticked s) → turn 0 (ticked s) ≡ quiet z → z.stop ≡ None → z.devices.sent ≡ None → cycle s ≡ quiet (record z { cycle = z.cycle + 1 })
unfolding move
one s z runs settled turned on sent =
    ap (λ (o : Option Stop). cycle_by o s) runs
    ∙ ap (λ (u : Settled). let t = turn u.left u.state in counted_by t.state.stop (told u.events t)) settled
    ∙ ap (λ (t : Step). counted_by t.state.stop (told [] t)) turned
    ∙ counted_quiet z.stop z on sent

-- the state one cycle later, with this phase and this to be settled
abbrev moved : Phase → After → State → State
moved p a s = record s { devices = ticked_devices s.devices s.cycle; cycle = s.cycle + 1; phase = p; after = a }

-- the state one cycle later, with so many cycles of padding left
abbrev padded_on : ℕ → State → State
padded_on left s = let p = padding left in moved p.0 p.1 s

pad_one : (left : ℕ) (s : State) → s.stop ≡ None → cycle (record s { phase = Pad left }) ≡ quiet (padded_on (left - 1) s)
unfolding ticked settle
pad_one left s runs =
    let x : State = record s { phase = Pad left } in
    one x (padded (left - 1) (ticked x)) runs refl (turn_is 0 (ticked x)) runs (ticked_sent s.devices s.cycle)

-- no vector reaches an active module
abbrev pub Missed : Option ℕ → Option ℕ → Type 0
Missed (Some v) (Some id) = ⊥
Missed _ _ = Unit {0}

turn_waits : (due active : Option ℕ) (rest : ℕ) (s : State) → Missed due active → turn_at due active (Run (suc rest)) 0 s ≡ quiet (record s { phase = Run rest })
turn_waits (Some v) (Some id) rest s h = absurd h
turn_waits (Some v) None rest s h = refl
turn_waits None (Some id) rest s h = refl
turn_waits None None rest s h = refl

wait_one : (rest : ℕ) (s : State) → s.stop ≡ None → Missed (due_after 1 s) s.active → cycle (record s { phase = Run (suc rest) }) ≡ quiet (moved (Run rest) s.after s)
unfolding ticked settle due
wait_one rest s runs h =
    let x : State = record s { phase = Run (suc rest) } in
    one x (record (ticked x) { phase = Run rest }) runs refl (turn_is 0 (ticked x) ∙ turn_waits (due_after 1 s) s.active rest (ticked x) h) runs (ticked_sent s.devices s.cycle)

sleep_one : (s : State) → s.stop ≡ None → asleep s ≡ true → due_after 1 s ≡ None →
    let x : State = record s { phase = Run 0; after = Next; active = None } in
    cycle x ≡ quiet (moved (Run 0) Next x)
unfolding ticked settle due
sleep_one s runs off none =
    let x : State = record s { phase = Run 0; after = Next; active = None } in
    one x (ticked x) runs refl
    (turn_is 0 (ticked x) ∙ ap (λ (o : Option ℕ). turn_at o None (Run 0) 0 (ticked x)) none ∙ ap (λ (b : Bool). turn_unless b 0 (ticked x)) off) runs (ticked_sent s.devices s.cycle)

-- ---- many cycles

cycles_from : (m : ℕ) (s : State) → after_cycles s (suc m) ≡ after_cycles (cycle s).state m
cycles_from zero s = refl
cycles_from (suc m) s = ap (λ (x : State). (cycle x).state) (cycles_from m s)

lead_none : (s t : State) → t ≡ s → Leads 0 s t
lead_none s t e = record { state = e; events = λ m h. absurd (omega (arith, h)) }

-- a cycle more, at the front
lead_more : (n : ℕ) (s x t u : State) → cycle s ≡ quiet x → Leads n x t → t ≡ u → Leads (suc n) s u
lead_more n s x t u e rest same = record { state = sym same ∙ rest.state ∙ sym (after n); events = silent }
  where
    after : (m : ℕ) → after_cycles s (suc m) ≡ after_cycles x m
    after m = cycles_from m s ∙ ap (λ (y : Step). after_cycles y.state m) e

    silent : (m : ℕ) → m < suc n → (cycle (after_cycles s m)).events ≡ []
    silent zero h = ap (λ (y : Step). y.events) e
    silent (suc m) h = ap (λ (y : State). (cycle y).events) (after m) ∙ rest.events m (omega (arith, h))

-- at least one cycle of padding
pads : (n left : ℕ) (s : State) → s.stop ≡ None → suc n ≤ left → let x : State = record s { phase = Pad left } in Leads (suc n) x (passed (suc n) x)
pads zero (suc left) s runs h =
    let x : State = record s { phase = Pad (suc left) } in
    let y = padded_on (suc left - 1) s in
    lead_more 0 x y y (passed 1 x) (pad_one (suc left) s runs) (lead_none y y refl) refl
pads (suc n) (suc (suc left)) s runs h =
    let x : State = record s { phase = Pad (suc (suc left)) } in
    let y = padded_on (suc left) s in
    let less : suc (suc left) - 1 ≡ suc left = omega arith in
    lead_more (suc n) x y (passed (suc n) y) (passed (suc (suc n)) x)
    (pad_one (suc (suc left)) s runs ∙ ap (λ (k : ℕ). quiet (padded_on k s)) less)
    (pads n (suc left) y runs (omega (arith, h)))
    (let e : s.cycle + 1 + suc n ≡ s.cycle + suc (suc n) = omega arith in let f : suc left - suc n ≡ suc (suc left) - suc (suc n) = omega arith in rw (e, f) refl)
pads _ _ s runs h = absurd (omega (arith, h))

waits : (n rest : ℕ) (s : State) → s.stop ≡ None → n ≤ rest → ((m : ℕ) → 0 < m → m ≤ n → Missed (due_after m s) s.active) → let x : State = record s { phase = Run rest } in Leads n x (passed n x)
waits zero rest s runs h missed =
    let x : State = record s { phase = Run rest } in
    lead_none x (passed 0 x) (let e : s.cycle + 0 ≡ s.cycle = omega arith in let f : rest - 0 ≡ rest = omega arith in rw (e, f) refl)
waits (suc n) zero s runs h missed = absurd (omega (arith, h))
waits (suc n) (suc rest) s runs h missed =
    let x : State = record s { phase = Run (suc rest) } in
    let y = moved (Run rest) s.after s in
    lead_more n x y (passed n y) (passed (suc n) x) (wait_one rest s runs (missed 1 (omega arith) (omega arith)))
    (waits n rest y runs (omega (arith, h)) (λ m some few. missed (suc m) (omega arith) (omega (arith, few))))
    (let e : s.cycle + 1 + n ≡ s.cycle + suc n = omega arith in let f : rest - n ≡ suc rest - suc n = omega arith in rw (e, f) refl)

sleeps : (n : ℕ) (s : State) → s.stop ≡ None → asleep s ≡ true → Calm n s → let x : State = record s { phase = Run 0; after = Next; active = None } in Leads n x (passed n x)
sleeps zero s runs off calm =
    let x : State = record s { phase = Run 0; after = Next; active = None } in
    lead_none x (passed 0 x) (let e : s.cycle + 0 ≡ s.cycle = omega arith in rw e refl)
sleeps (suc n) s runs off calm =
    let x : State = record s { phase = Run 0; after = Next; active = None } in
    let y = moved (Run 0) Next x in
    lead_more n x y (passed n y) (passed (suc n) x) (sleep_one s runs off (calm 1 (omega arith) (omega arith)))
    (sleeps n y runs off (λ m some few. calm (suc m) (omega arith) (omega (arith, few))))
    (let e : s.cycle + 1 + n ≡ s.cycle + suc n = omega arith in let f : 0 - n ≡ 0 - suc n = omega arith in rw (e, f) refl)

-- ---- by what stands

missed_outside : (due active : Option ℕ) → active ≡ None → Missed due active
missed_outside (Some v) (Some id) e = absurd cc
missed_outside _ _ e = tt

missed_calm : (due active : Option ℕ) → due ≡ None → Missed due active
missed_calm (Some v) active e = absurd cc
missed_calm None active e = tt

wait_in : (s : State) (rest m n : ℕ) → s.stop ≡ None → s.phase ≡ Run rest → n ≤ rest → m ≤ n → ((k : ℕ) → 0 < k → k ≤ n → Missed (due_after k s) s.active) → Leads m s (passed m s)
wait_in s rest m n runs e few first missed =
    subst (λ p. let x : State = record s { phase = p } in Leads m x (passed m x)) (sym e) (waits m rest s runs (omega (arith, few, first)) (λ k some within. missed k some (omega (arith, within, first))))

pad_in : (s : State) (left m : ℕ) → s.stop ≡ None → s.phase ≡ Pad left → 0 < m → m ≤ left → Leads m s (passed m s)
pad_in s left zero runs e some few = absurd (omega (arith, some))
pad_in s left (suc m) runs e some few = subst (λ p. let x : State = record s { phase = p } in Leads (suc m) x (passed (suc m) x)) (sym e) (pads m left s runs few)

sleep_in : (s : State) (m n : ℕ) → s.stop ≡ None → s.phase ≡ Run 0 → s.after ≡ Next → s.active ≡ None → asleep s ≡ true → Calm n s → m ≤ n → Leads m s (passed m s)
sleep_in s m n runs e f g off none first =
    subst (λ p. let x : State = record s { phase = p } in Leads m x (passed m x)) (sym e)
    (subst (λ a. let x : State = record s { phase = Run 0; after = a } in Leads m x (passed m x)) (sym f)
    (subst (λ a. let x : State = record s { phase = Run 0; after = Next; active = a } in Leads m x (passed m x)) (sym g)
    (sleeps m s runs off (λ k some within. none k some (omega (arith, within, first))))))

-- cycles that only pass, and the first m of them
pub passes : (s : State) (n m : ℕ) → s.stop ≡ None → OnlyPass n s → 0 < m → m ≤ n → Leads m s (passed m s)
passes s n m runs (Pads left e few) some first = pad_in s left m runs e some (omega (arith, few, first))
passes s n m runs (WaitsOutside rest e few outside) some first = wait_in s rest m n runs e few first (λ k one within. missed_outside (due_after k s) s.active outside)
passes s n m runs (Waits rest e few calm) some first = wait_in s rest m n runs e few first (λ k one within. missed_calm (due_after k s) s.active (calm k one within))
passes s n m runs (Sleeps e f g off calm) some first = sleep_in s m n runs e f g off calm first
