-- Runs of the machine, cycle by cycle.
use Rattle.std.proofs.Common.{◌≡◌, ℕ, zero, suc, ◌+◌, ◌-◌, ◌<◌, ◌≤◌, true, List, [], ◌∷◌, ◌++◌, length, take, Option, Some, None, is_some, refl, sym, ◌∙◌, ap, subst, arith}
use Rattle.std.proofs.lemmas.Bool.{false≢true}
use Rattle.std.proofs.lemmas.List.{append_assoc, append-nil}
use Rattle.std.specs.List.{flat_map}
use Rattle.sm_io.specs.Sink.{Took, CutOff}
use Rattle.sm_io.proofs.Putting.{appends_then, appends_same, took_same, took_then, cut_within}
use Rattle.pc_access.specs.declared.Stop.{Stop}
use Rattle.tracer.specs.Lines.{event_line}
use Rattle.tracer.specs.declared.Event.{Event}
use Rattle.written_machine.specs.Cycle.{Step, quiet, cycle, after_cycles}
use Rattle.written_machine.specs.Passing.{Leads}
use Rattle.written_machine.specs.State.{State}
use Rattle.written_machine.specs.Trace.{event_lines, lines_after}
use Rattle.written_machine.proofs.Stops.{cycle_by}
use Rattle.board.specs.declared.Ran.{Ran}
use Rattle.board.specs.Ran.{lines_now, RanWhole, RanCutOff, Runs}
use Rattle.board.specs.Ran.{ran_of}

-- one cycle more, at the end
pub state_more : (n : ℕ) (s : State) → after_cycles s (n + 1) ≡ (cycle (after_cycles s n)).state
state_more n s = let e : n + 1 ≡ suc n = omega arith in ap (after_cycles s) e

pub lines_more : (n : ℕ) (s : State) → lines_after s (n + 1) ≡ lines_after s n ++ lines_now (after_cycles s n)
lines_more n s = let e : n + 1 ≡ suc n = omega arith in ap (lines_after s) e

-- a run of n cycles and m more
pub state_split : (n m : ℕ) (s : State) → after_cycles s (n + m) ≡ after_cycles (after_cycles s n) m
state_split n zero s = let e : n + 0 ≡ n = omega arith in ap (after_cycles s) e
state_split n (suc m) s = let e : n + suc m ≡ suc (n + m) = omega arith in ap (after_cycles s) e ∙ ap (λ (t : State). (cycle t).state) (state_split n m s)

pub lines_split : (n m : ℕ) (s : State) → lines_after s (n + m) ≡ lines_after s n ++ lines_after (after_cycles s n) m
lines_split n zero s = (let e : n + 0 ≡ n = omega arith in ap (lines_after s) e) ∙ sym (append-nil (lines_after s n))
lines_split n (suc m) s =
    (let e : n + suc m ≡ suc (n + m) = omega arith in ap (lines_after s) e)
    ∙ ap (λ (t : State). lines_after s (n + m) ++ lines_now t) (state_split n m s)
    ∙ ap (λ (l : List ℕ). l ++ lines_now (after_cycles (after_cycles s n) m)) (lines_split n m s)
    ∙ append_assoc (lines_after s n) (lines_after (after_cycles s n) m) (lines_now (after_cycles (after_cycles s n) m))

-- the lines of a longer run begin with those of a shorter, and those of the next cycle
pub lines_within : (n all : ℕ) (s : State) (lines : List ℕ) → n < all → lines ≡ lines_now (after_cycles s n) →
    lines_after s n ++ (lines ++ lines_after (after_cycles s (n + 1)) (all - (n + 1))) ≡ lines_after s all
lines_within n all s lines h e =
    let rest = lines_after (after_cycles s (n + 1)) (all - (n + 1)) in
    let whole : (n + 1) + (all - (n + 1)) ≡ all = omega arith in
    ap (λ (l : List ℕ). lines_after s n ++ (l ++ rest)) e
    ∙ sym (append_assoc (lines_after s n) (lines_now (after_cycles s n)) rest)
    ∙ ap (λ (l : List ℕ). l ++ rest) (sym (lines_more n s))
    ∙ sym (lines_split (n + 1) (all - (n + 1)) s)
    ∙ ap (lines_after s) whole

-- the lines so far after a cycle
pub lines_next : (n : ℕ) (s : State) (lines : List ℕ) → lines ≡ lines_now (after_cycles s n) → lines_after s n ++ lines ≡ lines_after s (n + 1)
lines_next n s lines e = ap (λ (l : List ℕ). lines_after s n ++ l) e ∙ sym (lines_more n s)

-- the lines of a cycle, by its number and its events
pub lines_are : (s t : State) (number : ℕ) (events : List Event) → number ≡ s.cycle → events ≡ (cycle s).events → s ≡ t → event_lines number events ≡ lines_now t
lines_are s t number events at are same = ap (λ (k : ℕ). event_lines k events) at ∙ ap (event_lines s.cycle) are ∙ ap lines_now same

-- a stopped machine stays as it is, without a line
pub stays : (s : State) (stop : Stop) → s.stop ≡ Some stop → cycle s ≡ quiet s
stays s stop e = ap (λ (o : Option Stop). cycle_by o s) e

pub stopped_state : (m : ℕ) (s : State) (stop : Stop) → s.stop ≡ Some stop → after_cycles s m ≡ s
stopped_state zero s stop e = refl
stopped_state (suc m) s stop e = ap (λ (t : State). (cycle t).state) (stopped_state m s stop e) ∙ ap (λ (t : Step). t.state) (stays s stop e)

stopped_lines : (m : ℕ) (s : State) (stop : Stop) → s.stop ≡ Some stop → lines_after s m ≡ []
stopped_lines zero s stop e = refl
stopped_lines (suc m) s stop e =
    ap (λ (t : State). lines_after s m ++ lines_now t) (stopped_state m s stop e)
    ∙ ap (λ (t : Step). lines_after s m ++ event_lines s.cycle t.events) (stays s stop e)
    ∙ append-nil (lines_after s m)
    ∙ stopped_lines m s stop e

-- a run that leaves the machine stopped before its last cycle is the whole run
pub stopped_early : (n all : ℕ) (old new : State) → n ≤ all → new ≡ after_cycles old n → is_some new.stop ≡ true → (new ≡ after_cycles old all) × (lines_after old n ≡ lines_after old all)
stopped_early n all old new h is e = by new.stop refl e
  where
    by : (o : Option Stop) → new.stop ≡ o → is_some o ≡ true → (new ≡ after_cycles old all) × (lines_after old n ≡ lines_after old all)
    by None has some = absurd (false≢true some)
    by (Some stop) has some =
        let m = all - n in
        let whole : all ≡ n + m = omega arith in
        let at : (after_cycles old n).stop ≡ Some stop = ap (λ (s : State). s.stop) (sym is) ∙ has in (
          is ∙ sym (ap (after_cycles old) whole ∙ state_split n m old ∙ stopped_state m (after_cycles old n) stop at),
          sym (ap (lines_after old) whole ∙ lines_split n m old ∙ ap (λ (l : List ℕ). lines_after old n ++ l) (stopped_lines m (after_cycles old n) stop at) ∙ append-nil (lines_after old n)),
        )

-- how a run ends where no line was refused
pub ended_runs : {S : Type 0} (taken : S → Option (List ℕ)) (faults sure : S → ℕ) (n : ℕ) (old new : State) (before after : S) (r : Ran) → RanWhole taken faults sure n old new before after → r ≡ ran_of new.stop → Runs taken faults sure n old new before after r
ended_runs taken faults sure n old new before after r whole e = subst (λ x. Runs taken faults sure n old new before after x) (sym e) (by new.stop refl)
  where
    by : (o : Option Stop) → new.stop ≡ o → Runs taken faults sure n old new before after (ran_of o)
    by None is = (whole, is)
    by (Some stop) is = (whole, is)

-- the lines of events, one after another
pub lines_flat : (c : ℕ) (es : List Event) → flat_map (event_line c) es ≡ event_lines c es
lines_flat c [] = refl
lines_flat c (e ∷ es) = ap (λ (l : List ℕ). event_line c e ++ l) (lines_flat c es)

-- cycles without events after a run
pub state_led : (n k : ℕ) (s t u : State) → t ≡ after_cycles s n → Leads k t u → u ≡ after_cycles s (n + k)
state_led n k s t u at led = led.state ∙ ap (λ (x : State). after_cycles x k) at ∙ sym (state_split n k s)

-- they have no lines
pub silent_lines : (n : ℕ) (s : State) → ((m : ℕ) → m < n → (cycle (after_cycles s m)).events ≡ []) → lines_after s n ≡ []
silent_lines zero s silent = refl
silent_lines (suc n) s silent =
    ap (λ (es : List Event). lines_after s n ++ event_lines (after_cycles s n).cycle es) (silent n (omega arith))
    ∙ ap (λ (l : List ℕ). l ++ []) (silent_lines n s (λ m h. silent m (omega (arith, h))))

pub lines_led : (n k : ℕ) (s t u : State) → t ≡ after_cycles s n → Leads k t u → lines_after s n ≡ lines_after s (n + k)
lines_led n k s t u at led =
    sym (lines_split n k s ∙ ap (λ (x : State). lines_after s n ++ lines_after x k) (sym at) ∙ ap (λ (l : List ℕ). lines_after s n ++ l) (silent_lines k t led.events) ∙ append-nil (lines_after s n))

-- ---- the lines of the next cycle are put, after a run of n cycles that leads to t

-- they were refused
pub cut_after : {S : Type 0} (taken : S → Option (List ℕ)) (faults sure : S → ℕ) (n all : ℕ) (s t u : State) (number : ℕ) (events : List Event) (before mid after : S)
    → n < all → t ≡ after_cycles s n → number ≡ t.cycle → events ≡ (cycle t).events → u ≡ (cycle t).state
    → Took taken faults sure before mid (lines_after s n) → CutOff taken faults sure mid after (event_lines number events)
    → RanCutOff taken faults sure all s u before after
cut_after taken faults sure n all s t u number events before mid after within is at are next so_far cut =
    let those = lines_are t (after_cycles s n) number events at are is in
    let m = cut.front.0 in
    record {
      cycles = n;
      within = within;
      state = next ∙ ap (λ (b : State). (cycle b).state) is ∙ sym (state_more n s);
      front = m;
      shorter = subst (λ (l : List ℕ). m < length l) those cut.shorter;
      bytes = appends_same (taken before) (taken after) _ (lines_after s n ++ take m (lines_now (after_cycles s n))) (ap (λ (l : List ℕ). lines_after s n ++ take m l) those)
          (appends_then (taken before) (taken mid) (taken after) (lines_after s n) _ so_far.whole cut.front.1);
      cut = cut_within taken faults sure _ _ _ (lines_after s n) (event_lines number events) (lines_after (after_cycles s (n + 1)) (all - (n + 1))) (lines_after s all)
          (lines_within n all s _ within those) so_far cut;
    }

-- they were taken, and k cycles passed after it that have none
pub ran_on : {S : Type 0} (taken : S → Option (List ℕ)) (faults sure : S → ℕ) (n k all : ℕ) (s t u v : State) (number : ℕ) (events : List Event) (before mid after : S)
    → t ≡ after_cycles s n → number ≡ t.cycle → events ≡ (cycle t).events → u ≡ (cycle t).state → Leads k u v → n + 1 + k ≡ all
    → Took taken faults sure before mid (lines_after s n) → Took taken faults sure mid after (event_lines number events)
    → RanWhole taken faults sure all s v before after
ran_on taken faults sure n k all s t u v number events before mid after is at are next led done so_far took =
    let those = lines_are t (after_cycles s n) number events at are is in
    let there : u ≡ after_cycles s (n + 1) = next ∙ ap (λ (b : State). (cycle b).state) is ∙ sym (state_more n s) in
    record {
      state = state_led (n + 1) k s u v there led ∙ ap (after_cycles s) done;
      lines = took_same taken faults sure _ _ (lines_after s n ++ event_lines number events) (lines_after s all)
          (lines_next n s _ those ∙ lines_led (n + 1) k s u v there led ∙ ap (lines_after s) done)
          (took_then taken faults sure _ _ _ (lines_after s n) _ so_far took);
    }
