-- Where a text is accepted under some terms, and without certificates, its verdict under terms with more public words
-- and fewer answers is Yes, or names what is forgiven.
use Rattle.std.proofs.Common.{◌≡◌, inl, inr, ℕ, zero, suc, ◌≤◌, List, [], ◌∷◌, length, refl, sym, ap, ◌∙◌, subst, arith, Bool, true, false, cond, ◌&&◌, not, Option, Some, None}
use Rattle.sm_words.specs.Words.{add16}
use Rattle.insn_decode.specs.Code.{distance, is_always}
use Rattle.insn_decode.specs.declared.insn.Insn.{Insn}
use Rattle.insn_decode.specs.declared.insn.Insn.TheVariants.{Jump}
use Rattle.mod_layout.specs.declared.Module.{Module}
use Rattle.arm_balance.specs.Met.{met}
use Rattle.flow_rule.specs.Arms.{step_branch, step_arms_by, step_arms, flow_under, VerdictUnder}
use Rattle.flow_rule.specs.Iterations.{PointState, RuleViolation, FlowStep, given_by, given_points, iterations, all_violations}
use Rattle.flow_rule.specs.Terms.{Terms}
use Rattle.flow_rule.specs.Values.{is_secret, val, blurred_flags}
use Rattle.flow_rule.specs.Verdict.{Decided, flow_step, most_points, start_under}
use Rattle.flow_rule.specs.Violations.{AmongThem}
use Rattle.flow_rule.specs.declared.Verdict.{Verdict}
use Rattle.flow_rule.specs.declared.Verdict.TheVariants.{Yes, No}
use Rattle.flow_laws.proofs.Telling.{on_list}
use Rattle.granted_terms.proofs.Covering.{Held, EachHeld, held_lower, each_both, EachRests, Settled, settled, all_in_held, distinct_iterations, no_more}
use Rattle.granted_terms.proofs.Forgiven.{Forgiven, EachForgiven, Lower, EachLower, Follows}
use Rattle.granted_terms.proofs.Starts.{start_lower}
use Rattle.granted_terms.proofs.Steps.{step_below}
use Rattle.granted_terms.proofs.StepsEnds.{each_append}

-- Yes, or a violation that is forgiven
abbrev pub IsForgiven : Terms → Terms → Verdict → Type 0
IsForgiven now other Yes = Unit {0}
IsForgiven now other (No addr why value) = Forgiven now other (record { addr = addr; why = why; value = value })

among_forgiven : (now other : Terms) (r : RuleViolation) (rs : List RuleViolation) → EachForgiven now other rs → AmongThem r rs →
    Forgiven now other r
among_forgiven now other r [] h a = absurd a
among_forgiven now other r (q ∷ rs) h (inl e) = subst (Forgiven now other) (sym e) h.0
among_forgiven now other r (q ∷ rs) h (inr a) = among_forgiven now other r rs h.1 a

-- ---- steps that lie below those of a labelling without a violation
-- from a point that is lower than one where the step has no violation, the other gives lower points and violations that are forgiven
abbrev Below : Terms → Terms → (PointState → FlowStep) → (PointState → FlowStep) → Type 0
Below now other above below =
    (top low : PointState) → Lower top low → (above top).violations ≡ [] → Follows now other (above top) (below low)

module _ (now other : Terms) (above below : PointState → FlowStep) (follows : Below now other above below) (start low : PointState) (ts : List PointState) (rest : Settled above start ts) where
  gives_held : (gs ls : List PointState) → EachLower gs ls → EachHeld gs ts → EachHeld ls ts
  gives_held [] [] l h = tt
  gives_held (g ∷ gs) (x ∷ ls) l h = (held_lower g x ts l.0 h.0, gives_held gs ls l.1 h.1)
  gives_held [] (x ∷ ls) l h = absurd l
  gives_held (g ∷ gs) [] l h = absurd l

  given_held : (s : FlowStep) → EachHeld s.gives ts → EachHeld (given_by s) ts
  given_held s h = by s.violations
    where
      by : (rs : List RuleViolation) → EachHeld (elim rs [ [] ↦ s.gives | _ ∷ _ ↦ [] ]) ts
      by [] = h
      by (r ∷ rs) = tt

  step_held : (x : PointState) (xs : List PointState) → EachRests above ts xs → Held x xs →
      EachForgiven now other (below x).violations × EachHeld (given_by (below x)) ts
  step_held x [] r h = absurd h
  step_held x (t ∷ xs) r (inl l) =
      let f = follows t x l r.0.none in
      (f.forgiven, given_held (below x) (gives_held (above t).gives (below x).gives f.gives r.0.gives))
  step_held x (t ∷ xs) r (inr h) = step_held x xs r.1 h

  each_given : (xs : List PointState) → EachHeld xs ts → EachHeld (given_points below xs) ts
  each_given [] h = tt
  each_given (x ∷ xs) h =
      each_both (given_by (below x)) (given_points below xs) ts (step_held x ts rest.rests h.0).1 (each_given xs h.1)

  each_forgiven : (xs : List PointState) → EachHeld xs ts → EachForgiven now other (all_violations below xs)
  each_forgiven [] h = tt
  each_forgiven (x ∷ xs) h =
      each_append now other (below x).violations (all_violations below xs) (step_held x ts rest.rests h.0).0
      (each_forgiven xs h.1)

  iterations_held : Lower start low → (n : ℕ) → EachHeld (iterations below low n) ts
  iterations_held l zero = (held_lower start low ts l rest.begins, tt)
  iterations_held l (suc n) =
      let xs = iterations below low n in
      let h = iterations_held l n in
      all_in_held (given_points below xs) xs ts rest.distinct (each_given xs h) h

  decided_forgiven : (begin : ℕ) (v : Verdict) → Lower start low → length ts ≤ most_points → Decided below low begin v →
      IsForgiven now other v
  decided_forgiven begin Yes l few d = tt
  decided_forgiven begin (No addr why value) l few (inl d) =
      let held = subst (λ xs. EachHeld xs ts) d.1.is (iterations_held l d.1.iterations_to) in
      among_forgiven now other _ (all_violations below d.0) (each_forgiven d.0 held) d.3
  decided_forgiven begin (No addr why value) l few (inr d) =
      let xs = iterations below low d.0 in
      absurd (omega (arith, d.1, few, no_more xs ts (distinct_iterations below low d.0) (iterations_held l d.0)))

-- ---- without certificates
plain : (terms : Terms) (m : Module) (text : List ℕ) (x : PointState) → flow_under blurred_flags terms m text [] x ≡ flow_step blurred_flags terms m text x
unfolding step_arms
plain terms m text x = by (met m.text text x.point.addr)
  where
    branch : (b : Bool) (insn : Insn) (target : ℕ) → cond b (step_branch None (flow_step blurred_flags terms m text) m text insn x target) (flow_step blurred_flags terms m text x) ≡ flow_step blurred_flags terms m text x
    branch true insn target = refl
    branch false insn target = refl

    by : (o : Option Insn) → step_arms_by o (flow_step blurred_flags terms m text) [] m text x ≡ flow_step blurred_flags terms m text x
    by (Some (Jump condition off)) =
        branch (not (is_always condition) && is_secret (val x.state.core 2)) (Jump condition off)
        (add16 (add16 x.point.addr 2) (distance off))
    by _ = refl

module _ (now other : Terms) (m : Module) (text : List ℕ) where
  under_follows : Below now other (flow_under blurred_flags other m text []) (flow_under blurred_flags now m text [])
  under_follows top low l e =
      let here = plain other m text top in
      let there = plain now m text low in
      let f = step_below now other m text top low l (ap (λ s. s.violations) (sym here) ∙ e) in
      subst (λ s. Follows now other s (flow_under blurred_flags now m text [] low)) (sym here)
      (subst (λ s. Follows now other (flow_step blurred_flags other m text top) s) (sym there) f)

  pub verdict_forgiven : ((a : ℕ) → on_list other.public a ≡ true → on_list now.public a ≡ true) →
      VerdictUnder other m text [] Yes → (v : Verdict) → VerdictUnder now m text [] v → IsForgiven now other v
  verdict_forgiven more d v is =
      let above = flow_under blurred_flags other m text [] in
      decided_forgiven now other above (flow_under blurred_flags now m text []) under_follows (start_under other m text)
      (start_under now m text) d.0 (settled above (start_under other m text) d.0 d.1 d.3) m.text.start v
      (start_lower m now other text more) d.2 is
