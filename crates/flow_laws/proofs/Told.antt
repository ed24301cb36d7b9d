-- Two runs end alike, or a release tells them apart.
use Rattle.std.proofs.Common.{◌≡◌, ◌≢◌, ◌⊎◌, inl, inr, ℕ, zero, suc, ◌+◌, ◌-◌, ◌<◌, ◌≤◌, ◌==◌, List, [], ◌∷◌, set, refl, sym, ap, ◌∙◌, subst, arith, Bool, true, false, cond, length-set}
use Rattle.std.proofs.lemmas.Bool.{cases_lt, eqb-true}
use Rattle.std.proofs.lemmas.Bool.Decides.{nat_tests}
use Rattle.sm_words.specs.Words.{reg}
use Rattle.mod_layout.specs.declared.Module.{Module}
use Rattle.mod_layout.specs.declared.Section.{Section}
use Rattle.mod_layout.specs.Table.{holds}
use Rattle.cpu_step.specs.Lone.{Job, Lone, lone_after, lone_step, outcome}
use Rattle.cpu_step.proofs.Alike.{ends_but}
use Rattle.flow_rule.specs.Terms.{Terms}
use Rattle.flow_rule.specs.declared.Val.{Val}
use Rattle.flow_rule.specs.declared.Val.TheVariants.{Public, Secret}
use Rattle.flow_rule.specs.Values.{flags_in, is_secret, val}
use Rattle.flow_rule.specs.Iterations.{PointState, FlowStep}
use Rattle.flow_rule.proofs.Meaning.{Agrees, set_holds}
use Rattle.flow_rule.proofs.Cores.{AgreeCore}
use Rattle.flow_laws.specs.Laws.{AgreeOn}
use Rattle.flow_laws.specs.Releases.{Release, opened_if, opened, released_at, releasing, SomeDiffer, ToldApart}
use Rattle.flow_laws.proofs.Words.{IsData}
use Rattle.flow_laws.proofs.Labelling.{Among, CoveredBy, Closed}
use Rattle.flow_laws.proofs.Runs.{at_rest, Passes, Standing, Ending, Stays, Left, Shut, Sound, crossing_alike, left_alike, shut_alike}
use Rattle.flow_laws.proofs.Instruction.{AgreeAt}

-- ---- cycles on
after_shift : (j : Job) (l : Lone) (k : ℕ) → lone_after j l (suc k) ≡ lone_after j (lone_step j l) k
after_shift j l zero = refl
after_shift j l (suc k) = ap (lone_step j) (after_shift j l k)

after_passes : (j : Job) (k : ℕ) (l l' : Lone) → Passes j k l l' → (n : ℕ) → lone_after j l (k + n) ≡ lone_after j l' n
after_passes j zero l l' h n = ap (λ i. lone_after j l i) (let e : zero + n ≡ n = omega arith in e) ∙ ap (λ i. lone_after j i n) h
after_passes j (suc k) l l' h n = ap (λ i. lone_after j l i) (let e : suc k + n ≡ suc (k + n) = omega arith in e) ∙ after_shift j l (k + n) ∙ after_passes j k (lone_step j l) l' h.1 n

abbrev Apart : List Release → Lone → Lone → Type 0
Apart ps a b = (a.rest ≡ 0) × (b.rest ≡ 0) × (reg a.core 0 ≡ reg b.core 0) × SomeDiffer ps (reg a.core 0) a.core b.core

pub told_later : (ps : List Release) (j : Job) (k : ℕ) (la lb ta tb : Lone) → Passes j k la ta → Passes j k lb tb → (i n : ℕ) → k + i ≡ n → ToldApart ps j ta tb i → ToldApart ps j la lb n
told_later ps j k la lb ta tb pa pb i n e h =
    let c = k + h.0 in
    let le = h.1 in
    let d : Apart ps (lone_after j la c) (lone_after j lb c) =
    subst (λ a. Apart ps a (lone_after j lb c)) (sym (after_passes j k la ta pa h.0)) (subst (λ b. Apart ps (lone_after j ta h.0) b) (sym (after_passes j k lb tb pb h.0)) (h.2, h.3, h.4, h.5)) in
    (c, omega (arith, le, e), d.0, d.1, d.2, d.3)

-- ---- what is released is equal, or tells the runs apart
open_agrees : (s : Section) (v : List Val) (a b : List ℕ) (r : ℕ) → reg a r ≡ reg b r → AgreeCore s v a b → AgreeCore s (set v r Public) a b
open_agrees s v a b r e h =
    record {
      short = subst (λ i. i ≤ 16) (sym (length-set v r Public)) h.short;
      long_a = h.long_a;
      long_b = h.long_b;
      at = λ n ne. set_holds (λ u. Agrees s u (reg a n) (reg b n)) v Secret r n Public tt (λ f. ap (reg a) f ∙ e ∙ ap (reg b) (sym f)) (λ nr. h.at n ne);
      flags = set_holds (λ u. Agrees s u (flags_in (reg a 2)) (flags_in (reg b 2))) v Secret r 2 Public tt (λ f. ap flags_in (ap (reg a) f ∙ e ∙ ap (reg b) (sym f))) (λ nr. h.flags);
      mode_same = h.mode_same;
      nine_a = h.nine_a;
      nine_b = h.nine_b;
      even_pc = h.even_pc;
      zero_a = h.zero_a;
      zero_b = h.zero_b;
    }

core_opens : (s : Section) (ps : List Release) (pc : ℕ) (v : List Val) (a b : List ℕ) → AgreeCore s v a b → SomeDiffer ps pc a b ⊎ AgreeCore s (opened ps pc v) a b
core_opens s [] pc v a b h = inr h
core_opens s (p ∷ ps) pc v a b h = by (core_opens s ps pc v a b h)
  where
    here : (c : Bool) → (p.addr == pc) ≡ c → (d : Bool) → (reg a p.register == reg b p.register) ≡ d → AgreeCore s (opened ps pc v) a b → SomeDiffer (p ∷ ps) pc a b ⊎ AgreeCore s (opened_if c p.register (opened ps pc v)) a b
    here false e d f k = inr k
    here true e false f k = inl (inl (eqb-true p.addr pc e, let ne : reg a p.register ≢ reg b p.register = grind (arith, nat_tests) in ne))
    here true e true f k = inr (opens (is_secret (val (opened ps pc v) p.register)))
      where
        opens : (c : Bool) → AgreeCore s (cond c (set (opened ps pc v) p.register Public) (opened ps pc v)) a b
        opens true = open_agrees s (opened ps pc v) a b p.register (eqb-true (reg a p.register) (reg b p.register) f) k
        opens false = k

    by : SomeDiffer ps pc a b ⊎ AgreeCore s (opened ps pc v) a b → SomeDiffer (p ∷ ps) pc a b ⊎ AgreeCore s (opened (p ∷ ps) pc v) a b
    by (inl d) = inl (inr d)
    by (inr k) = here (p.addr == pc) refl (reg a p.register == reg b p.register) refl k

pub point_opens : (ps : List Release) (m : Module) (x : PointState) (ca da cb db : List ℕ) → AgreeAt m x ca da cb db → SomeDiffer ps x.point.addr ca cb ⊎ AgreeAt m (released_at ps x) ca da cb db
point_opens ps m x ca da cb db h = by (core_opens m.text ps x.point.addr x.state.core ca cb h.core)
  where
    by : SomeDiffer ps x.point.addr ca cb ⊎ AgreeCore m.text (opened ps x.point.addr x.state.core) ca cb → SomeDiffer ps x.point.addr ca cb ⊎ AgreeAt m (released_at ps x) ca da cb db
    by (inl d) = inl d
    by (inr k) = inr (record { pc_a = h.pc_a; pc_b = h.pc_b; core = k; words = h.words; in_text = h.in_text })

-- ---- runs
abbrev pub EndsOr : List Release → List ℕ → (List ℕ → List ℕ → Type 0) → Job → ℕ → Lone → Lone → Type 0
EndsOr ps answers R j n la lb = ends_but answers R (outcome j n la) (outcome j n lb) ⊎ ToldApart ps j la lb n

pub crossing_or : (ps : List Release) (answers : List ℕ) (R : List ℕ → List ℕ → Type 0) (m : Module) (j : Job) (k : ℕ) (la lb ta tb : Lone) → Passes j k la ta → Passes j k lb tb → (n : ℕ) →
    ((i : ℕ) → i + k ≡ n → EndsOr ps answers R j i ta tb) → EndsOr ps answers R j n la lb
crossing_or ps answers R m j k la lb ta tb pa pb n rest = by (cases_lt n k)
  where
    with_rest : k ≤ n → EndsOr ps answers R j (n - k) ta tb → EndsOr ps answers R j n la lb
    with_rest ge (inl h) =
        inl (crossing_alike answers R m j k la lb ta tb pa pb n (λ i e. let f : n - k ≡ i = omega arith in subst (λ i. ends_but answers R (outcome j i ta) (outcome j i tb)) f h))
    with_rest ge (inr h) = inr (told_later ps j k la lb ta tb pa pb (n - k) n (let f : k + (n - k) ≡ n = omega arith in f) h)

    by : (n < k) ⊎ (k ≤ n) → EndsOr ps answers R j n la lb
    by (inl lt) = inl (crossing_alike answers R m j k la lb ta tb pa pb n (λ i e. absurd (omega (arith, lt, e))))
    by (inr ge) = with_rest ge (rest (n - k) (let f : n - k + k ≡ n = omega arith in f))

module _ (ps : List Release) (terms : Terms) (m : Module) (j : Job) (own : j.owner ≡ m) (At : Standing) (step : PointState → FlowStep) (sound : Sound terms m j At step) (start : PointState) (P : PointState → Type 0)
    (closed : Closed (releasing ps step) start P) (at_pc : (x : PointState) (ca da cb db : List ℕ) → At x ca da cb db → (reg ca 0 ≡ x.point.addr) × (reg cb 0 ≡ x.point.addr))
    (opens : (x : PointState) (ca da cb db : List ℕ) → At x ca da cb db → SomeDiffer ps x.point.addr ca cb ⊎ At (released_at ps x) ca da cb db)
    (R : List ℕ → List ℕ → Type 0) (more : (da db : List ℕ) → IsData m da → IsData m db → AgreeOn m terms.public da db → R da db) where
  abbrev Both : ℕ → Lone → Lone → Type 0
  Both n la lb = EndsOr ps terms.answers R j n la lb

  from : (fuel n : ℕ) → n < fuel → (x : PointState) → CoveredBy P x → (ca da cb db : List ℕ) → At x ca da cb db → Both n (at_rest ca da) (at_rest cb db)
  from zero n lt x c ca da cb db at = absurd (omega arith)
  from (suc fuel) n lt x c ca da cb db at =
      let y = c.point in
      let at_y = sound.weaken x y ca da cb db c.under at in
      by at_y (opens y ca da cb db at_y) (λ i z among l ca da cb db at. from fuel i (omega (arith, l, lt)) z (closed.goes_on y c.among z among) ca da cb db at)
    where
      ends : (i : ℕ) (ta tb : Lone) → Ending terms m j At (releasing ps step c.point).gives ta tb →
          ((z : PointState) → Among z (releasing ps step c.point).gives → (ca da cb db : List ℕ) → At z ca da cb db → Both i (at_rest ca da) (at_rest cb db)) → Both i ta tb
      ends i ta tb (Stays z among ca da cb db at ea eb) go = subst (λ l. Both i l tb) (sym ea) (subst (λ l. Both i (at_rest ca da) l) (sym eb) (go z among ca da cb db at))
      ends i ta tb (Left ca da cb db same out_a out_b ok_a ok_b agree ea eb) go =
          subst (λ l. Both i l tb) (sym ea) (subst (λ l. Both i (at_rest ca da) l) (sym eb)
          (inl (left_alike terms.answers R j i ca da cb db same (ap (λ o. holds o.text (reg ca 0)) own ∙ out_a) (ap (λ o. holds o.text (reg cb 0)) own ∙ out_b) (more da db ok_a ok_b agree))))
      ends i ta tb (Shut same ea eb) go = inl (shut_alike terms.answers R j i ta tb ea eb same)

      by : At c.point ca da cb db → SomeDiffer ps c.point.point.addr ca cb ⊎ At (released_at ps c.point) ca da cb db →
          ((i : ℕ) (z : PointState) → Among z (releasing ps step c.point).gives → i < n → (ca da cb db : List ℕ) → At z ca da cb db → Both i (at_rest ca da) (at_rest cb db)) → Both n (at_rest ca da) (at_rest cb db)
      by at_y (inl d) go =
          let h = at_pc c.point ca da cb db at_y in
          inr (0, omega arith, refl, refl, h.0 ∙ sym h.1, subst (λ a. SomeDiffer ps a ca cb) (sym h.0) d)
      by at_y (inr at) go =
          let k = sound.cross (released_at ps c.point) ca da cb db at (closed.fine c.point c.among) in
          let some = k.some in
          crossing_or ps terms.answers R m j k.cycles (at_rest ca da) (at_rest cb db) k.to_a k.to_b k.pass_a k.pass_b n
          (λ i e. ends i k.to_a k.to_b k.ending (λ z among ca da cb db at. go i z among (omega (arith, some, e)) ca da cb db at))

  pub always_or : (n : ℕ) (ca da cb db : List ℕ) → At start ca da cb db → Both n (at_rest ca da) (at_rest cb db)
  always_or n ca da cb db at = from (suc n) n (omega arith) start closed.begins ca da cb db at
