-- Two runs of a module by itself that go from point to point of a closed labelling end alike.
use Rattle.std.proofs.Common.{◌≡◌, ◌⊎◌, inl, inr, ℕ, zero, suc, ◌+◌, ◌-◌, ◌<◌, ◌≤◌, List, [], refl, sym, ap, ◌∙◌, subst, arith, false}
use Rattle.std.proofs.lemmas.Bool.{cases_lt}
use Rattle.sm_words.specs.Words.{reg}
use Rattle.mod_layout.specs.declared.Module.{Module}
use Rattle.mod_layout.specs.Table.{holds}
use Rattle.cpu_step.specs.Lone.{Job, Lone, CallEnd, Exit, Closing, Running, later, Doing, Waits, Closes, Leaves, Does, doing, doing_by, next_insn, lone_step_by, lone_step, at_once, in_time, outcome, blank}
use Rattle.flow_rule.specs.Terms.{Terms}
use Rattle.flow_rule.specs.Iterations.{PointState, FlowStep}
use Rattle.cpu_step.proofs.Alike.{ends_but}
use Rattle.flow_laws.specs.Laws.{AgreeOn}
use Rattle.flow_laws.proofs.Words.{IsData}
use Rattle.flow_laws.proofs.Labelling.{Under, Among, CoveredBy, Closed}

-- a module between two instructions
abbrev pub at_rest : List ℕ → List ℕ → Lone
at_rest core d = record { core = core; data_bytes = d; rest = 0; closing = false }

abbrev pub Busy : Doing → Type 0
Busy (Waits r) = Unit {0}
Busy (Does i) = Unit {0}
Busy _ = ⊥

-- k cycles lead from l to l', and none is the last
abbrev pub Passes : Job → ℕ → Lone → Lone → Type 0
Passes j zero l l' = l ≡ l'
Passes j (suc k) l l' = Busy (doing j l) × Passes j k (lone_step j l) l'

abbrev laters : ℕ → CallEnd → CallEnd
laters zero o = o
laters (suc k) o = later (laters k o)

busy_once : (x : Doing) (l : Lone) → Busy x → at_once x l ≡ Running
busy_once (Waits r) l h = refl
busy_once (Does i) l h = refl
busy_once _ l h = absurd h

busy_time : (x : Doing) (next : Lone → CallEnd) (j : Job) (l : Lone) → Busy x → in_time x next j l ≡ later (next (lone_step_by x j l))
busy_time (Waits r) next j l h = refl
busy_time (Does i) next j l h = refl
busy_time _ next j l h = absurd h

pub passes_far : (j : Job) (k : ℕ) (l l' : Lone) → Passes j k l l' → (n : ℕ) → outcome j (k + n) l ≡ laters k (outcome j n l')
passes_far j zero l l' h n = ap (λ i. outcome j i l) (let e : zero + n ≡ n = omega arith in e) ∙ ap (λ i. outcome j n i) h
passes_far j (suc k) l l' h n =
    ap (λ i. outcome j i l) (let e : suc k + n ≡ suc (k + n) = omega arith in e)
    ∙ busy_time (doing j l) (outcome j (k + n)) j l h.0 ∙ ap later (passes_far j k (lone_step j l) l' h.1 n)

pub passes_near : (j : Job) (k : ℕ) (l l' : Lone) → Passes j k l l' → (n : ℕ) → n < k → outcome j n l ≡ Running
passes_near j zero l l' h n lt = absurd (omega arith)
passes_near j (suc k) l l' h zero lt = busy_once (doing j l) l h.0
passes_near j (suc k) l l' h (suc n) lt = busy_time (doing j l) (outcome j n) j l h.0 ∙ ap later (passes_near j k (lone_step j l) l' h.1 n (omega arith))

laters_alike : (answers : List ℕ) (R : List ℕ → List ℕ → Type 0) (k : ℕ) (o p : CallEnd) → ends_but answers R o p → ends_but answers R (laters k o) (laters k p)
laters_alike answers R zero o p h = h
laters_alike answers R (suc k) o p h = one (laters k o) (laters k p) (laters_alike answers R k o p h)
  where
    one : (o p : CallEnd) → ends_but answers R o p → ends_but answers R (later o) (later p)
    one Running Running h = tt
    one (Closing c d k) (Closing c' d' k') h = (h.0, ap (λ i. i + 1) h.1)
    one (Exit c d k) (Exit c' d' k') h = (h.0, ap (λ i. i + 1) h.1, h.2)
    one _ _ h = absurd h

-- where two runs stand at a point
abbrev pub Standing : Type 1
Standing = PointState → List ℕ → List ℕ → List ℕ → List ℕ → Type 0

-- how one step of both ends: at a given point, outside the text, or closing
pub data Ending (terms : Terms) (m : Module) (j : Job) (At : Standing) (gives : List PointState) (la lb : Lone) : Type 0 where
  Stays : (y : PointState) (among : Among y gives) (ca da cb db : List ℕ) (at : At y ca da cb db) (ea : la ≡ at_rest ca da) (eb : lb ≡ at_rest cb db) → Ending terms m j At gives la lb
  Left : (ca da cb db : List ℕ) (same : blank terms.answers ca ≡ blank terms.answers cb) (out_a : holds m.text (reg ca 0) ≡ false) (out_b : holds m.text (reg cb 0) ≡ false) (ok_a : IsData m da) (ok_b : IsData m db)
      (agree : AgreeOn m terms.public da db) (ea : la ≡ at_rest ca da) (eb : lb ≡ at_rest cb db) → Ending terms m j At gives la lb
  Shut : (same : blank terms.answers la.core ≡ blank terms.answers lb.core) (ea : doing j la ≡ Closes) (eb : doing j lb ≡ Closes) → Ending terms m j At gives la lb

-- one step of both: the same number of cycles, at least one
pub record Crossing (terms : Terms) (m : Module) (j : Job) (At : Standing) (gives : List PointState) (la lb : Lone) : Type 0 where
  pub cycles : ℕ
  pub some : 0 < cycles
  pub to_a : Lone
  pub to_b : Lone
  pub pass_a : Passes j cycles la to_a
  pub pass_b : Passes j cycles lb to_b
  pub ending : Ending terms m j At gives to_a to_b

-- what is to be shown of a step: the points that it gives are those where the runs come
pub record Sound (terms : Terms) (m : Module) (j : Job) (At : Standing) (step : PointState → FlowStep) : Type 0 where
  pub weaken : (x y : PointState) (ca da cb db : List ℕ) → Under x y → At x ca da cb db → At y ca da cb db
  pub cross : (x : PointState) (ca da cb db : List ℕ) → At x ca da cb db → (step x).violations ≡ [] → Crossing terms m j At (step x).gives (at_rest ca da) (at_rest cb db)

at_once_closes : (x y : Doing) (answers : List ℕ) (R : List ℕ → List ℕ → Type 0) (la lb : Lone) → x ≡ Closes → y ≡ Closes → blank answers la.core ≡ blank answers lb.core → ends_but answers R (at_once x la) (at_once y lb)
at_once_closes Closes Closes answers R la lb p q e = (e, refl)
at_once_closes _ _ answers R la lb p q e = absurd cc

in_time_closes : (x y : Doing) (answers : List ℕ) (R : List ℕ → List ℕ → Type 0) (next : Lone → CallEnd) (j : Job) (la lb : Lone) → x ≡ Closes → y ≡ Closes → blank answers la.core ≡ blank answers lb.core → ends_but answers R (in_time x next j la) (in_time y next j lb)
in_time_closes Closes Closes answers R next j la lb p q e = (e, refl)
in_time_closes _ _ answers R next j la lb p q e = absurd cc

pub shut_alike : (answers : List ℕ) (R : List ℕ → List ℕ → Type 0) (j : Job) (n : ℕ) (la lb : Lone) → doing j la ≡ Closes → doing j lb ≡ Closes → blank answers la.core ≡ blank answers lb.core → ends_but answers R (outcome j n la) (outcome j n lb)
shut_alike answers R j zero la lb p q e = at_once_closes (doing j la) (doing j lb) answers R la lb p q e
shut_alike answers R j (suc n) la lb p q e = in_time_closes (doing j la) (doing j lb) answers R (outcome j n) j la lb p q e

pub leaves_at : (j : Job) (c d : List ℕ) → holds j.owner.text (reg c 0) ≡ false → doing j (at_rest c d) ≡ Leaves
unfolding doing
leaves_at j c d e = ap (λ t. doing_by 0 false t (next_insn j (at_rest c d))) e

pub left_alike : (answers : List ℕ) (R : List ℕ → List ℕ → Type 0) (j : Job) (n : ℕ) (ca da cb db : List ℕ) → blank answers ca ≡ blank answers cb → holds j.owner.text (reg ca 0) ≡ false → holds j.owner.text (reg cb 0) ≡ false → R da db →
    ends_but answers R (outcome j n (at_rest ca da)) (outcome j n (at_rest cb db))
left_alike answers R j zero ca da cb db same ea eb r =
    subst (λ x. ends_but answers R (at_once x (at_rest ca da)) (at_once (doing j (at_rest cb db)) (at_rest cb db))) (sym (leaves_at j ca da ea))
    (subst (λ x. ends_but answers R (Exit ca da 0) (at_once x (at_rest cb db))) (sym (leaves_at j cb db eb)) (same, refl, r))
left_alike answers R j (suc n) ca da cb db same ea eb r =
    subst (λ x. ends_but answers R (in_time x (outcome j n) j (at_rest ca da)) (in_time (doing j (at_rest cb db)) (outcome j n) j (at_rest cb db))) (sym (leaves_at j ca da ea))
    (subst (λ x. ends_but answers R (Exit ca da 0) (in_time x (outcome j n) j (at_rest cb db))) (sym (leaves_at j cb db eb)) (same, refl, r))

-- a crossing, and what comes after it
pub crossing_alike : (answers : List ℕ) (R : List ℕ → List ℕ → Type 0) (m : Module) (j : Job) (k : ℕ) (la lb ta tb : Lone) → Passes j k la ta → Passes j k lb tb → (n : ℕ) →
    ((i : ℕ) → i + k ≡ n → ends_but answers R (outcome j i ta) (outcome j i tb)) → ends_but answers R (outcome j n la) (outcome j n lb)
crossing_alike answers R m j k la lb ta tb pa pb n rest = by (cases_lt n k)
  where
    by : (n < k) ⊎ (k ≤ n) → ends_but answers R (outcome j n la) (outcome j n lb)
    by (inl lt) = subst (λ o. ends_but answers R o (outcome j n lb)) (sym (passes_near j k la ta pa n lt)) (subst (λ o. ends_but answers R Running o) (sym (passes_near j k lb tb pb n lt)) tt)
    by (inr ge) =
        let i = n - k in
        let e : k + i ≡ n = omega arith in
        let f : i + k ≡ n = omega arith in
        subst (λ o. ends_but answers R o (outcome j n lb)) (sym (ap (λ x. outcome j x la) (sym e) ∙ passes_far j k la ta pa i))
        (subst (λ o. ends_but answers R (laters k (outcome j i ta)) o) (sym (ap (λ x. outcome j x lb) (sym e) ∙ passes_far j k lb tb pb i))
        (laters_alike answers R k (outcome j i ta) (outcome j i tb) (rest i f)))

module _ (terms : Terms) (m : Module) (j : Job) (own : j.owner ≡ m) (At : Standing) (step : PointState → FlowStep) (sound : Sound terms m j At step) (start : PointState) (P : PointState → Type 0) (closed : Closed step start P)
    (R : List ℕ → List ℕ → Type 0) (more : (da db : List ℕ) → IsData m da → IsData m db → AgreeOn m terms.public da db → R da db) where
  -- by the cycles that are left
  from : (fuel n : ℕ) → n < fuel → (x : PointState) → CoveredBy P x → (ca da cb db : List ℕ) → At x ca da cb db → ends_but terms.answers R (outcome j n (at_rest ca da)) (outcome j n (at_rest cb db))
  from zero n lt x c ca da cb db at = absurd (omega arith)
  from (suc fuel) n lt x c ca da cb db at =
      let y = c.point in
      let k = sound.cross y ca da cb db (sound.weaken x y ca da cb db c.under at) (closed.fine y c.among) in
      let some = k.some in
      crossing_alike terms.answers R m j k.cycles (at_rest ca da) (at_rest cb db) k.to_a k.to_b k.pass_a k.pass_b n
      (λ i e. ends i k.to_a k.to_b k.ending (λ z among ca da cb db at. from fuel i (omega arith) z (closed.goes_on y c.among z among) ca da cb db at))
    where
      ends : (i : ℕ) (ta tb : Lone) → Ending terms m j At (step c.point).gives ta tb →
          ((z : PointState) → Among z (step c.point).gives → (ca da cb db : List ℕ) → At z ca da cb db → ends_but terms.answers R (outcome j i (at_rest ca da)) (outcome j i (at_rest cb db))) →
          ends_but terms.answers R (outcome j i ta) (outcome j i tb)
      ends i ta tb (Stays z among ca da cb db at ea eb) go =
          subst (λ l. ends_but terms.answers R (outcome j i l) (outcome j i tb)) (sym ea) (subst (λ l. ends_but terms.answers R (outcome j i (at_rest ca da)) (outcome j i l)) (sym eb) (go z among ca da cb db at))
      ends i ta tb (Left ca da cb db same out_a out_b ok_a ok_b agree ea eb) go =
          subst (λ l. ends_but terms.answers R (outcome j i l) (outcome j i tb)) (sym ea) (subst (λ l. ends_but terms.answers R (outcome j i (at_rest ca da)) (outcome j i l)) (sym eb)
          (left_alike terms.answers R j i ca da cb db same (ap (λ o. holds o.text (reg ca 0)) own ∙ out_a) (ap (λ o. holds o.text (reg cb 0)) own ∙ out_b) (more da db ok_a ok_b agree)))
      ends i ta tb (Shut same ea eb) go = shut_alike terms.answers R j i ta tb ea eb same

  pub always_alike : (n : ℕ) (ca da cb db : List ℕ) → At start ca da cb db → ends_but terms.answers R (outcome j n (at_rest ca da)) (outcome j n (at_rest cb db))
  always_alike n ca da cb db at = from (suc n) n (omega arith) start closed.begins ca da cb db at
