-- How runs lead from one state to another.
use Rattle.std.proofs.Common.{◌≡◌, ℕ, zero, suc, ◌+◌, ◌-◌, ◌<◌, ◌≤◌, Bool, true, false, Option, Some, None, is_some, refl, sym, ◌∙◌, ap, subst, arith}
use Rattle.sm_words.specs.Sums.{one_if}
use Rattle.pc_access.specs.declared.Stop.{Stop}
use Rattle.written_machine.specs.Cycle.{Step, told, ticked, settle, turn, counted_by, move, cycle, after_cycles}
use Rattle.written_machine.specs.Standing.{stands_at, this_or, last_standing}
use Rattle.written_machine.specs.State.{State}
use Rattle.written_machine.proofs.Stops.{cycle_by}
use Rattle.run_laws.proofs.Tame.{cycle_number, runs_so_far, settle_same, turn_same, ticked_same}
use Rattle.board.specs.internal.Sound.{ended_at, RunsTo, LeadsTo, state_number}
use Rattle.board.proofs.Runs.{state_split, stays, stopped_state}

-- ---- the number of a cycle

counted_stop : (o : Option Stop) (t : Step) (stop : Stop) → t.state.stop ≡ o → (counted_by o t).state.stop ≡ Some stop → (counted_by o t).state.cycle ≡ t.state.cycle
counted_stop (Some x) t stop e h = refl
counted_stop None t stop e h = absurd (let k : None ≡ Some stop = sym e ∙ h in cc)

move_stop : (s : State) (stop : Stop) → (move s).state.stop ≡ Some stop → (move s).state.cycle ≡ s.cycle
unfolding move
move_stop s stop h =
    let u = settle (ticked s) in
    let t = turn u.left u.state in
    counted_stop t.state.stop (told u.events t) stop refl h ∙ turn_same u.left u.state ∙ (settle_same (ticked s)).0 ∙ ticked_same s

-- a cycle that leaves the machine stopped has the number of the one before
stop_number_by : (o : Option Stop) (s : State) (stop : Stop) → (cycle_by o s).state.stop ≡ Some stop → (cycle_by o s).state.cycle ≡ s.cycle
stop_number_by (Some x) s stop h = refl
stop_number_by None s stop h = move_stop s stop h

pub stop_number : (s : State) (stop : Stop) → (cycle s).state.stop ≡ Some stop → (cycle s).state.cycle ≡ s.cycle
stop_number s stop h = stop_number_by s.stop s stop h

-- ---- leading

none_more : (s : State) → s ≡ after_cycles s (s.cycle - s.cycle)
none_more s = let e : 0 ≡ s.cycle - s.cycle = omega arith in ap (after_cycles s) e

-- every state leads to itself
pub leads_self : (s : State) → LeadsTo s s
leads_self s = record { runs_to = record { rises = omega arith; runs = λ h. absurd (omega (arith, h)) }; led = by s.stop refl }
  where
    by : (o : Option Stop) → s.stop ≡ o → s ≡ ended_at o (after_cycles s (s.cycle - s.cycle))
    by None e = none_more s
    by (Some stop) e = sym (ap (λ (t : Step). t.state) (stays s stop e)) ∙ ap (λ (t : State). (cycle t).state) (none_more s)

-- to a state that runs
led_running : (s t : State) → LeadsTo s t → t.stop ≡ None → t ≡ after_cycles s (t.cycle - s.cycle)
led_running s t l e = l.led ∙ ap (λ (o : Option Stop). ended_at o (after_cycles s (t.cycle - s.cycle))) e

next_by : (s t : State) (o : Option Stop) → s.cycle ≤ t.cycle → t ≡ after_cycles s (t.cycle - s.cycle) → t.stop ≡ None → (cycle t).state.stop ≡ o → LeadsTo s (cycle t).state
next_by s t None rises is runs e =
    let n = (cycle t).state in
    let number : n.cycle ≡ t.cycle + 1 = (cycle_number t.stop t refl e).1 in
    let d : suc (t.cycle - s.cycle) ≡ n.cycle - s.cycle = omega (arith, rises, number) in
    let at : n ≡ after_cycles s (n.cycle - s.cycle) = ap (λ (u : State). (cycle u).state) is ∙ ap (after_cycles s) d in
    record {
      runs_to = record { rises = omega (arith, rises, number); runs = λ h. ap (λ (u : State). u.stop) (sym at) ∙ e };
      led = at ∙ ap (λ (o : Option Stop). ended_at o (after_cycles s (n.cycle - s.cycle))) (sym e);
    }
next_by s t (Some stop) rises is runs e =
    let n = (cycle t).state in
    let number : n.cycle ≡ t.cycle = stop_number t stop e in
    let at : t ≡ after_cycles s (n.cycle - s.cycle) = is ∙ ap (λ k. after_cycles s (k - s.cycle)) (sym number) in
    record {
      runs_to = record { rises = omega (arith, rises, number); runs = λ h. ap (λ (u : State). u.stop) (sym at) ∙ runs };
      led = ap (λ (u : State). (cycle u).state) at ∙ ap (λ (o : Option Stop). ended_at o (after_cycles s (n.cycle - s.cycle))) (sym e);
    }

leads_by : (s t : State) (o : Option Stop) → t.stop ≡ o → LeadsTo s t → LeadsTo s (cycle t).state
leads_by s t (Some stop) e l = subst (LeadsTo s) (sym (ap (λ (u : Step). u.state) (stays t stop e))) l
leads_by s t None e l = next_by s t (cycle t).state.stop l.runs_to.rises (led_running s t l e) e refl

-- what leads to a state leads to the next one
pub leads_next : (s t : State) → LeadsTo s t → LeadsTo s (cycle t).state
leads_next s t l = leads_by s t t.stop refl l

-- and to all later ones
pub leads_on : (n : ℕ) (s t : State) → LeadsTo s t → LeadsTo s (after_cycles t n)
leads_on zero s t l = l
leads_on (suc n) s t l = leads_next s (after_cycles t n) (leads_on n s t l)

pub leads_number : (s t : State) → LeadsTo s t → s.cycle + one_if (is_some s.stop) ≤ t.cycle + one_if (is_some t.stop)
leads_number s t l = by s.stop t.stop refl refl
  where
    by : (o p : Option Stop) → s.stop ≡ o → t.stop ≡ p → s.cycle + one_if (is_some o) ≤ t.cycle + one_if (is_some p)
    by None p e f = omega (arith, l.runs_to.rises)
    by (Some stop) (Some other) e f = omega (arith, l.runs_to.rises)
    by (Some stop) None e f =
        let at = led_running s t l f in
        let no : Some stop ≡ None = sym e ∙ ap (λ (u : State). u.stop) (sym (stopped_state (t.cycle - s.cycle) s stop e)) ∙ ap (λ (u : State). u.stop) (sym at) ∙ f in
        absurd (cc)

-- ---- on the way

-- up to that number it runs, and counts each cycle
pub runs_within : (number i : ℕ) (s : State) → RunsTo number s → suc i ≤ number - s.cycle → ((after_cycles s (suc i)).stop ≡ None) × ((after_cycles s (suc i)).cycle ≡ s.cycle + suc i)
runs_within number i s r within =
    let last = r.runs (omega (arith, within)) in
    let on = (runs_so_far s (number - s.cycle) last).0 (suc i) (omega (arith, within)) in
    (on, (runs_so_far s (suc i) on).1)

-- a shorter way
pub runs_less : (number n : ℕ) (s : State) → RunsTo number s → s.cycle ≤ n → n ≤ number → RunsTo n s
runs_less number n s r from to = record { rises = from; runs = λ h. by (n - s.cycle) refl h }
  where
    by : (d : ℕ) → n - s.cycle ≡ d → s.cycle < n → (after_cycles s (n - s.cycle)).stop ≡ None
    by zero z h = absurd (omega (arith, z, h))
    by (suc d) z h = ap (λ k. (after_cycles s k).stop) z ∙ (runs_within number d s r (omega (arith, z, to))).0

-- ---- the last one that stands somewhere

-- it is one of these states
found_by : (b : Bool) (n : ℕ) (s t : State) (before : Option State) → (before ≡ Some t → (i : ℕ) × (i < n) × (t ≡ after_cycles s i)) → this_or b (after_cycles s n) before ≡ Some t →
    (i : ℕ) × (i < suc n) × (t ≡ after_cycles s i)
found_by true n s t before found e = let is : after_cycles s n ≡ t = cc in (n, omega arith, sym is)
found_by false n s t before found e = let f = found e in (f.0, omega (arith, f.1), f.2)

pub standing_found : (addr n : ℕ) (s t : State) → last_standing addr s n ≡ Some t → (i : ℕ) × (i < n) × (t ≡ after_cycles s i)
standing_found addr zero s t e = absurd (cc)
standing_found addr (suc n) s t e = found_by (stands_at addr (after_cycles s n)) n s t (last_standing addr s n) (standing_found addr n s t) e

-- by its number
pub found_by_number : (addr number : ℕ) (s t : State) → RunsTo number s → last_standing addr s (number - s.cycle) ≡ Some t →
    (t ≡ after_cycles s (t.cycle - s.cycle)) × (RunsTo t.cycle s) × (t.cycle < number)
found_by_number addr number s t r e =
    let found = standing_found addr (number - s.cycle) s t e in
    by found.0 found.1 found.2
  where
    by : (i : ℕ) → i < number - s.cycle → t ≡ after_cycles s i → (t ≡ after_cycles s (t.cycle - s.cycle)) × (RunsTo t.cycle s) × (t.cycle < number)
    by zero within is =
        let n : t.cycle ≡ s.cycle = ap (λ (u : State). u.cycle) is in
        let z : 0 ≡ t.cycle - s.cycle = omega (arith, n) in
        (is ∙ ap (after_cycles s) z, runs_less number t.cycle s r (omega (arith, n)) (omega (arith, n, within)), omega (arith, n, within))
    by (suc i) within is =
        let n : t.cycle ≡ s.cycle + suc i = ap (λ (u : State). u.cycle) is ∙ (runs_within number i s r (omega (arith, within))).1 in
        let z : suc i ≡ t.cycle - s.cycle = omega (arith, n) in
        (is ∙ ap (after_cycles s) z, runs_less number t.cycle s r (omega (arith, n)) (omega (arith, n, within)), omega (arith, n, within))

-- the number of the last tells whether there is one
pub none_numbered : (o : Option State) → None ≡ state_number o → o ≡ None
none_numbered None e = refl
none_numbered (Some t) e = absurd (cc)

pub some_numbered : (o : Option State) (n : ℕ) → Some n ≡ state_number o → (t : State) × (o ≡ Some t) × (n ≡ t.cycle)
some_numbered None n e = absurd (cc)
some_numbered (Some t) n e = (t, refl, cc)

-- ---- rounds of a walk

-- one cycle more
pub walk_next : (number i : ℕ) (s t u : State) → RunsTo number s → t ≡ after_cycles s i → i < number - s.cycle → u ≡ (cycle t).state →
    (u ≡ after_cycles s (suc i)) × (u.cycle ≡ s.cycle + suc i)
walk_next number i s t u r is within next =
    let at : u ≡ after_cycles s (suc i) = next ∙ ap (λ (x : State). (cycle x).state) is in
    (at, ap (λ (x : State). x.cycle) at ∙ (runs_within number i s r (omega (arith, within))).1)

-- the number of the last that stands, one cycle later: this one
pub last_here : (addr i n : ℕ) (s t : State) (next : Option ℕ) → t ≡ after_cycles s i → n ≡ t.cycle → stands_at addr t ≡ true → next ≡ Some n → next ≡ state_number (last_standing addr s (suc i))
last_here addr i n s t next is number here e =
    e ∙ ap Some (number ∙ ap (λ (x : State). x.cycle) is)
    ∙ sym (ap (λ b. state_number (this_or b (after_cycles s i) (last_standing addr s i))) (ap (stands_at addr) (sym is) ∙ here))

-- or the one before
pub last_there : (addr i : ℕ) (s t : State) (last next : Option ℕ) → t ≡ after_cycles s i → stands_at addr t ≡ false → last ≡ state_number (last_standing addr s i) → next ≡ last → next ≡ state_number (last_standing addr s (suc i))
last_there addr i s t last next is off was e =
    e ∙ was ∙ sym (ap (λ b. state_number (this_or b (after_cycles s i) (last_standing addr s i))) (ap (stands_at addr) (sym is) ∙ off))

-- where a walk arrives
pub arrived : (number : ℕ) (s : State) → RunsTo number s → (after_cycles s (number - s.cycle)).cycle ≡ number
arrived number s r = by (number - s.cycle) refl
  where
    by : (d : ℕ) → number - s.cycle ≡ d → (after_cycles s (number - s.cycle)).cycle ≡ number
    by zero z = ap (λ k. (after_cycles s k).cycle) z ∙ (omega (arith, z, r.rises))
    by (suc d) z = ap (λ k. (after_cycles s k).cycle) z ∙ (runs_within number d s r (omega (arith, z))).1 ∙ (omega (arith, z, r.rises))

-- cycles in which it stands nowhere near change nothing of it
pub last_apart : (addr i n : ℕ) (s t : State) → t ≡ after_cycles s i → ((m : ℕ) → m < n → stands_at addr (after_cycles t m) ≡ false) → last_standing addr s (i + n) ≡ last_standing addr s i
last_apart addr i zero s t is apart = let e : i + 0 ≡ i = omega arith in ap (last_standing addr s) e
last_apart addr i (suc n) s t is apart =
    let e : i + suc n ≡ suc (i + n) = omega arith in
    let at : after_cycles s (i + n) ≡ after_cycles t n = state_split i n s ∙ ap (λ (x : State). after_cycles x n) (sym is) in
    let off : stands_at addr (after_cycles s (i + n)) ≡ false = ap (stands_at addr) at ∙ apart n (omega arith) in
    ap (last_standing addr s) e
    ∙ ap (λ b. this_or b (after_cycles s (i + n)) (last_standing addr s (i + n))) off
    ∙ last_apart addr i n s t is (λ m h. apart m (omega (arith, h)))
