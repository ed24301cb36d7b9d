-- A module by itself, over many cycles.
use Rattle.std.proofs.Common.{◌≡◌, ◌<◌, ◌≤◌, ℕ, zero, suc, ◌+◌, ◌-◌, refl, sym, ap, ◌∙◌, subst, arith, Bool, true, false, Option, Some, None}
use Rattle.sm_words.specs.Words.{reg}
use Rattle.insn_decode.specs.declared.insn.Insn.{Insn}
use Rattle.mod_layout.specs.Table.{holds}
use Rattle.cpu_step.specs.Lone.{Job, Lone, CallEnd, Exit, Closing, Broken, Running, Doing, Waits, Closes, Leaves, Breaks, Does, doing_by, doing, next_insn, later, at_once, in_time, outcome, lone_step_by, lone_step, lone_after}
use Rattle.cpu_step.specs.LoneLaws.{GoesOn, Reaches, HasLeft, HasClosed, IsBroken, Ends, leaves, closes, breaks, runs, OneEnd}

-- the cycles of a step and those after it
pub after_step : (j : Job) (l : Lone) (c : ℕ) → lone_after j (lone_step j l) c ≡ lone_after j l (suc c)
after_step j l zero = refl
after_step j l (suc c) = ap (lone_step j) (after_step j l c)

pub after_more : (j : Job) (l : Lone) (c d : ℕ) → lone_after j l (c + d) ≡ lone_after j (lone_after j l c) d
after_more j l c zero = ap (lone_after j l) (let e : c + zero ≡ c = omega arith in e)
after_more j l c (suc d) = ap (lone_after j l) (let e : c + suc d ≡ suc (c + d) = omega arith in e) ∙ ap (lone_step j) (after_more j l c d)

-- ---- an outcome that comes so many cycles later

abbrev pub delayed : ℕ → CallEnd → CallEnd
delayed k (Exit core left c) = Exit core left (c + k)
delayed k (Closing core left c) = Closing core left (c + k)
delayed k (Broken left c) = Broken left (c + k)
delayed k Running = Running

pub delayed_none : (o : CallEnd) → o ≡ delayed 0 o
delayed_none (Exit core left c) = ap (Exit core left) (let e : c ≡ c + 0 = omega arith in e)
delayed_none (Closing core left c) = ap (Closing core left) (let e : c ≡ c + 0 = omega arith in e)
delayed_none (Broken left c) = ap (Broken left) (let e : c ≡ c + 0 = omega arith in e)
delayed_none Running = refl

pub delayed_more : (a b : ℕ) (o : CallEnd) → delayed a (delayed b o) ≡ delayed (a + b) o
delayed_more a b (Exit core left c) = ap (Exit core left) (let e : c + b + a ≡ c + (a + b) = omega arith in e)
delayed_more a b (Closing core left c) = ap (Closing core left) (let e : c + b + a ≡ c + (a + b) = omega arith in e)
delayed_more a b (Broken left c) = ap (Broken left) (let e : c + b + a ≡ c + (a + b) = omega arith in e)
delayed_more a b Running = refl

pub later_is : (o : CallEnd) → later o ≡ delayed 1 o
later_is (Exit core left c) = refl
later_is _ = refl

-- ---- where a call stands

-- what a doing tells of a state
abbrev Told : Job → Lone → Doing → Type 0
Told j l (Waits r) = l.rest ≡ suc r
Told j l Closes = HasClosed l
Told j l Leaves = HasLeft j l
Told j l Breaks = IsBroken j l
Told j l (Does insn) = (l.closing ≡ false) × (holds j.owner.text (reg l.core 0) ≡ true)

told : (j : Job) (l : Lone) → Told j l (doing j l)
unfolding doing
told j l = by l.rest l.closing (holds j.owner.text (reg l.core 0)) (next_insn j l) refl refl refl refl
  where
    by : (r : ℕ) (closing inside : Bool) (next : Option Insn) → l.rest ≡ r → l.closing ≡ closing → holds j.owner.text (reg l.core 0) ≡ inside → next_insn j l ≡ next → Told j l (doing_by r closing inside next)
    by (suc r) closing inside next a b c d = a
    by zero true inside next a b c d = record { rested = a; closing = b }
    by zero false false next a b c d = record { rested = a; not_closing = b; outside = c }
    by zero false true None a b c d = record { rested = a; not_closing = b; inside = c; none = d }
    by zero false true (Some insn) a b c d = (b, c)

left_is : (j : Job) (s : Lone) → HasLeft j s → doing j s ≡ Leaves
unfolding doing
left_is j s h =
    ap (λ r. doing_by r s.closing (holds j.owner.text (reg s.core 0)) (next_insn j s)) h.rested ∙ ap (λ b. doing_by 0 b (holds j.owner.text (reg s.core 0)) (next_insn j s)) h.not_closing
    ∙ ap (λ b. doing_by 0 false b (next_insn j s)) h.outside

closed_is : (j : Job) (s : Lone) → HasClosed s → doing j s ≡ Closes
unfolding doing
closed_is j s h =
    ap (λ r. doing_by r s.closing (holds j.owner.text (reg s.core 0)) (next_insn j s)) h.rested ∙ ap (λ b. doing_by 0 b (holds j.owner.text (reg s.core 0)) (next_insn j s)) h.closing

broken_is : (j : Job) (s : Lone) → IsBroken j s → doing j s ≡ Breaks
unfolding doing
broken_is j s h =
    ap (λ r. doing_by r s.closing (holds j.owner.text (reg s.core 0)) (next_insn j s)) h.rested ∙ ap (λ b. doing_by 0 b (holds j.owner.text (reg s.core 0)) (next_insn j s)) h.not_closing
    ∙ ap (λ b. doing_by 0 false b (next_insn j s)) h.inside ∙ ap (doing_by 0 false true) h.none

clash : (b : Bool) → b ≡ true → b ≡ false → ⊥
clash true p q = absurd cc
clash false p q = absurd cc

reach_here : (j : Job) (l : Lone) → Reaches j l 0 l
reach_here j l = record { there = refl; before = λ k h. absurd (omega arith) }

module _ (j : Job) (l s : Lone) (c : ℕ) where
  reach_later : GoesOn (doing j l) → Reaches j (lone_step j l) c s → Reaches j l (suc c) s
  reach_later now r = record { there = sym (after_step j l c) ∙ r.there; before = before }
    where
      before : (k : ℕ) → k < suc c → GoesOn (doing j (lone_after j l k))
      before zero h = now
      before (suc k) h = subst (λ y. GoesOn (doing j y)) (after_step j l k) (r.before k (omega arith))

  reach_next : Reaches j l (suc c) s → Reaches j (lone_step j l) c s
  reach_next r = record { there = after_step j l c ∙ r.there; before = λ k h. subst (λ y. GoesOn (doing j y)) (sym (after_step j l k)) (r.before (suc k) (omega arith)) }

goes_on : (d : Doing) (next : Lone → CallEnd) (j : Job) (l : Lone) → GoesOn d → in_time d next j l ≡ later (next (lone_step_by d j l))
goes_on (Waits r) next j l g = refl
goes_on (Does insn) next j l g = refl
goes_on Closes next j l g = absurd g
goes_on Leaves next j l g = absurd g
goes_on Breaks next j l g = absurd g

outcome_from : (j : Job) (l s : Lone) (c m : ℕ) → Reaches j l c s → outcome j (c + m) l ≡ delayed c (outcome j m s)
outcome_from j l s zero m r = ap (λ k. outcome j k l) (let e : 0 + m ≡ m = omega arith in e) ∙ ap (outcome j m) r.there ∙ delayed_none (outcome j m s)
outcome_from j l s (suc c) m r =
    ap (λ k. outcome j k l) (let e : suc c + m ≡ suc (c + m) = omega arith in e) ∙ goes_on (doing j l) (outcome j (c + m)) j l (r.before 0 (omega arith))
    ∙ ap later (outcome_from j (lone_step j l) s c m (reach_next j l s c r)) ∙ later_is (delayed c (outcome j m s)) ∙ delayed_more 1 c (outcome j m s)
    ∙ ap (λ k. delayed k (outcome j m s)) (let e : 1 + c ≡ suc c = omega arith in e)

outcome_within : (j : Job) (l s : Lone) (c n : ℕ) → c ≤ n → Reaches j l c s → outcome j n l ≡ delayed c (outcome j (n - c) s)
outcome_within j l s c n few r = ap (λ k. outcome j k l) (let e : n ≡ c + (n - c) = omega arith in e) ∙ outcome_from j l s c (n - c) r

-- ---- an end is the outcome

left_now : (j : Job) (s : Lone) (m : ℕ) → HasLeft j s → outcome j m s ≡ Exit s.core s.data_bytes 0
left_now j s zero h = ap (λ d. at_once d s) (left_is j s h)
left_now j s (suc m) h = ap (λ d. in_time d (outcome j m) j s) (left_is j s h)

closed_now : (j : Job) (s : Lone) (m : ℕ) → HasClosed s → outcome j m s ≡ Closing s.core s.data_bytes 0
closed_now j s zero h = ap (λ d. at_once d s) (closed_is j s h)
closed_now j s (suc m) h = ap (λ d. in_time d (outcome j m) j s) (closed_is j s h)

broken_now : (j : Job) (s : Lone) (m : ℕ) → 0 < m → IsBroken j s → outcome j m s ≡ Broken s.data_bytes 0
broken_now j s zero some h = absurd (omega arith)
broken_now j s (suc m) some h = ap (λ d. in_time d (outcome j m) j s) (broken_is j s h)

runs_now : (j : Job) (s : Lone) → ¬ HasLeft j s → ¬ HasClosed s → outcome j 0 s ≡ Running
runs_now j s not_left not_closed = by (doing j s) (told j s)
  where
    by : (d : Doing) → Told j s d → at_once d s ≡ Running
    by Closes t = absurd (not_closed t)
    by Leaves t = absurd (not_left t)
    by _ t = refl

end_is : (j : Job) (l : Lone) (n : ℕ) {o : CallEnd} → Ends j l n o → outcome j n l ≡ o
end_is j l n (leaves c s few r h) = outcome_within j l s c n few r ∙ ap (delayed c) (left_now j s (n - c) h) ∙ ap (Exit s.core s.data_bytes) (let e : 0 + c ≡ c = omega arith in e)
end_is j l n (closes c s few r h) = outcome_within j l s c n few r ∙ ap (delayed c) (closed_now j s (n - c) h) ∙ ap (Closing s.core s.data_bytes) (let e : 0 + c ≡ c = omega arith in e)
end_is j l n (breaks c s few r h) =
    outcome_within j l s c n (omega arith) r ∙ ap (delayed c) (broken_now j s (n - c) (omega arith) h) ∙ ap (Broken s.data_bytes) (let e : 0 + c ≡ c = omega arith in e)
end_is j l n (runs s r not_left not_closed) =
    outcome_within j l s n n (omega arith) r ∙ ap (λ k. delayed n (outcome j k s)) (let e : n - n ≡ 0 = omega arith in e) ∙ ap (delayed n) (runs_now j s not_left not_closed)

-- ---- the outcome is an end

one_later : (j : Job) (l : Lone) (n : ℕ) {o : CallEnd} → GoesOn (doing j l) → Ends j (lone_step j l) n o → Ends j l (suc n) (later o)
one_later j l n now (leaves c s few r h) = leaves (c + 1) s (omega arith) (subst (λ k. Reaches j l k s) (let e : suc c ≡ c + 1 = omega arith in e) (reach_later j l s c now r)) h
one_later j l n now (closes c s few r h) = closes (c + 1) s (omega arith) (subst (λ k. Reaches j l k s) (let e : suc c ≡ c + 1 = omega arith in e) (reach_later j l s c now r)) h
one_later j l n now (breaks c s few r h) = breaks (c + 1) s (omega arith) (subst (λ k. Reaches j l k s) (let e : suc c ≡ c + 1 = omega arith in e) (reach_later j l s c now r)) h
one_later j l n now (runs s r not_left not_closed) = runs s (reach_later j l s n now r) not_left not_closed

still_runs : (j : Job) (l : Lone) (d : Doing) → Told j l d → (d ≡ Closes → ⊥) → (d ≡ Leaves → ⊥) → Ends j l 0 Running
still_runs j l d t not_closes not_leaves = runs l (reach_here j l) (not_left d t not_leaves) (not_closed d t not_closes)
  where
    not_left : (d : Doing) → Told j l d → (d ≡ Leaves → ⊥) → ¬ HasLeft j l
    not_left (Waits r) t n h = absurd (omega (arith, t, h.rested))
    not_left Closes t n h = clash l.closing t.closing h.not_closing
    not_left Leaves t n h = n refl
    not_left Breaks t n h = clash (holds j.owner.text (reg l.core 0)) t.inside h.outside
    not_left (Does insn) t n h = clash (holds j.owner.text (reg l.core 0)) t.1 h.outside

    not_closed : (d : Doing) → Told j l d → (d ≡ Closes → ⊥) → ¬ HasClosed l
    not_closed (Waits r) t n h = absurd (omega (arith, t, h.rested))
    not_closed Closes t n h = n refl
    not_closed Leaves t n h = clash l.closing h.closing t.not_closing
    not_closed Breaks t n h = clash l.closing h.closing t.not_closing
    not_closed (Does insn) t n h = clash l.closing h.closing t.0

ends : (j : Job) (l : Lone) (n : ℕ) → Ends j l n (outcome j n l)
ends j l zero = by (doing j l) (told j l)
  where
    by : (d : Doing) → Told j l d → Ends j l 0 (at_once d l)
    by Closes t = closes 0 l (omega arith) (reach_here j l) t
    by Leaves t = leaves 0 l (omega arith) (reach_here j l) t
    by (Waits r) t = still_runs j l (Waits r) t (λ e. absurd cc) (λ e. absurd cc)
    by Breaks t = still_runs j l Breaks t (λ e. absurd cc) (λ e. absurd cc)
    by (Does insn) t = still_runs j l (Does insn) t (λ e. absurd cc) (λ e. absurd cc)
ends j l (suc n) = by (doing j l) refl (told j l) (ends j (lone_step j l) n)
  where
    by : (d : Doing) → doing j l ≡ d → Told j l d → Ends j (lone_step j l) n (outcome j n (lone_step j l)) → Ends j l (suc n) (in_time d (outcome j n) j l)
    by (Waits r) e t s = one_later j l n (subst GoesOn (sym e) tt) (subst (λ y. Ends j (lone_step j l) n (outcome j n y)) (ap (λ d. lone_step_by d j l) e) s)
    by Closes e t s = closes 0 l (omega arith) (reach_here j l) t
    by Leaves e t s = leaves 0 l (omega arith) (reach_here j l) t
    by Breaks e t s = breaks 0 l (omega arith) (reach_here j l) t
    by (Does insn) e t s = one_later j l n (subst GoesOn (sym e) tt) (subst (λ y. Ends j (lone_step j l) n (outcome j n y)) (ap (λ d. lone_step_by d j l) e) s)

pub one_end : OneEnd
one_end j l n o = (end_is j l n, λ e. subst (Ends j l n) e (ends j l n))
