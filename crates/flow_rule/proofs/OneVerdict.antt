-- A text has one verdict.
use Rattle.std.proofs.Common.{◌≡◌, ℕ, zero, suc, ◌≤◌, ◌==◌, List, [], ◌∷◌, length, if◌then◌else◌, refl, sym, ◌∙◌, ap, subst, arith, inl, inr}
use Rattle.flow_rule.specs.declared.Reason.{Reason}
use Rattle.flow_rule.specs.declared.Reason.TheVariants as reason
use Rattle.flow_rule.specs.declared.Verdict.{Verdict}
use Rattle.flow_rule.specs.declared.Verdict.TheVariants.{Yes, No}
use Rattle.flow_rule.specs.Iterations.{PointState, RuleViolation, FlowStep, given_points, iteration, iterations, IsLabelling, all_violations}
use Rattle.flow_rule.specs.Violations.{number_of, NotAfter, BeforeAll, AmongThem}
use Rattle.flow_rule.specs.Verdict.{Decided}
use Rattle.flow_rule.proofs.Ends.{all_longer}

-- Iterations never shorten

module _ (step : PointState → FlowStep) where
  -- this many iterations from these points
  abbrev more : ℕ → List PointState → List PointState
  more zero xs = xs
  more (suc n) xs = iteration step (more n xs)

  shift : (n : ℕ) (xs : List PointState) → more n (iteration step xs) ≡ iteration step (more n xs)
  shift zero xs = refl
  shift (suc n) xs = ap (iteration step) (shift n xs)

  still : (xs : List PointState) → iteration step xs ≡ xs → (n : ℕ) → more n xs ≡ xs
  still xs e zero = refl
  still xs e (suc n) = ap (iteration step) (still xs e n) ∙ e

  longer : (n : ℕ) (xs : List PointState) → length xs ≤ length (more n xs)
  longer zero xs = omega arith
  longer (suc n) xs = omega (arith, longer n xs, all_longer (given_points step (more n xs)) (more n xs))

  abbrev Stays : List PointState → Type 0
  Stays xs = iteration step xs ≡ xs

  one_fixed : (n m : ℕ) (xs : List PointState) → Stays (more n xs) → Stays (more m xs) → more n xs ≡ more m xs
  one_fixed zero m xs r s = sym (still xs r m)
  one_fixed (suc n) zero xs r s = still xs s (suc n)
  one_fixed (suc n) (suc m) xs r s =
      sym (shift n xs) ∙ one_fixed n m (iteration step xs) (subst Stays (sym (shift n xs)) r) (subst Stays (sym (shift m xs)) s) ∙ shift m xs

  -- no iteration is longer than one that stays
  not_longer : (n m : ℕ) (xs : List PointState) → Stays (more m xs) → length (more n xs) ≤ length (more m xs)
  not_longer zero m xs s = longer m xs
  not_longer (suc n) zero xs s = omega (arith, ap length (still xs s (suc n)))
  not_longer (suc n) (suc m) xs s =
      let both : length (more n (iteration step xs)) ≤ length (more m (iteration step xs)) = not_longer n m (iteration step xs) (subst Stays (sym (shift m xs)) s) in
      omega (arith, both, ap length (shift n xs), ap length (shift m xs))

  as_more : (start : PointState) (n : ℕ) → iterations step start n ≡ more n (start ∷ [])
  as_more start zero = refl
  as_more start (suc n) = ap (iteration step) (as_more start n)

  module _ (start : PointState) where
    staying : (xs : List PointState) (l : IsLabelling step start xs) → more l.iterations_to (start ∷ []) ≡ xs
    staying xs l = sym (as_more start l.iterations_to) ∙ l.is

    one_labelling : (xs ys : List PointState) → IsLabelling step start xs → IsLabelling step start ys → xs ≡ ys
    one_labelling xs ys l k =
        sym (staying xs l)
        ∙ one_fixed l.iterations_to k.iterations_to (start ∷ []) (subst Stays (sym (staying xs l)) l.stays) (subst Stays (sym (staying ys k)) k.stays)
        ∙ staying ys k

    within : (xs : List PointState) (n : ℕ) → IsLabelling step start xs → length (iterations step start n) ≤ length xs
    within xs n l =
        let bound = not_longer n l.iterations_to (start ∷ []) (subst Stays (sym (staying xs l)) l.stays) in
        omega (arith, bound, ap length (as_more start n), ap length (staying xs l))

-- The first violation

abbrev reason_of : ℕ → Reason
reason_of n =
    if n == 1 then reason.SecretBranch
    else if n == 2 then reason.SecretAddress
    else if n == 3 then reason.OutsideAccess
    else if n == 4 then reason.SecretAtExit
    else if n == 5 then reason.UnknownTarget
    else if n == 6 then reason.Illegal
    else if n == 7 then reason.Unit
    else if n == 8 then reason.TooMany
    else if n == 9 then reason.Arm
    else if n == 10 then reason.ArmTime
    else reason.DataAtExit

numbered : (r : Reason) → reason_of (number_of r) ≡ r
numbered reason.SecretBranch = refl
numbered _ = refl

abbrev no_of : RuleViolation → Verdict
no_of r = No r.addr r.why r.value

same_no : (a b : RuleViolation) → a.addr ≡ b.addr → number_of a.why ≡ number_of b.why → a.value ≡ b.value →
    no_of a ≡ no_of b
same_no a b e f h = let why : a.why ≡ b.why = sym (numbered a.why) ∙ ap reason_of f ∙ numbered b.why in cc

one_first : (a b : RuleViolation) → NotAfter a b → NotAfter b a → no_of a ≡ no_of b
one_first a b (inl h) (inl k) = absurd (omega (arith, h, k))
one_first a b (inl h) (inr k) = absurd (omega (arith, h, k.0))
one_first a b (inr h) (inl k) = absurd (omega (arith, h.0, k))
one_first a b (inr (e, inl h)) (inr (f, inl k)) = absurd (omega (arith, h, k))
one_first a b (inr (e, inl h)) (inr (f, inr k)) = absurd (omega (arith, h, k.0))
one_first a b (inr (e, inr h)) (inr (f, inl k)) = absurd (omega (arith, h.0, k))
one_first a b (inr (e, inr h)) (inr (f, inr k)) = same_no a b e h.0 (omega (arith, h.1, k.1))

before : (r x : RuleViolation) (xs : List RuleViolation) → BeforeAll r xs → AmongThem x xs → NotAfter r x
before r x [] b a = absurd a
before r x (y ∷ ys) b (inl e) = subst (λ z. NotAfter r z) (sym e) b.0
before r x (y ∷ ys) b (inr a) = before r x ys b.1 a

one_reason : (a b : RuleViolation) (xs : List RuleViolation) → AmongThem a xs → BeforeAll a xs → AmongThem b xs → BeforeAll b xs → no_of a ≡ no_of b
one_reason a b xs a_in a_first b_in b_first = one_first a b (before a b xs a_first b_in) (before b a xs b_first a_in)

none_among : (r : RuleViolation) (xs : List RuleViolation) → xs ≡ [] → AmongThem r xs → ⊥
none_among r [] e a = a
none_among r (x ∷ xs) e a = cc

-- Verdicts

module _ (step : PointState → FlowStep) (start : PointState) (begin : ℕ) where
  pub one_verdict : (a b : Verdict) → Decided step start begin a → Decided step start begin b → a ≡ b
  one_verdict Yes Yes d e = refl
  one_verdict Yes (No addr why value) d (inl e) =
      let same : all_violations step e.0 ≡ all_violations step d.0 = ap (all_violations step) (one_labelling step start e.0 d.0 e.1 d.1) in
      absurd (none_among _ (all_violations step e.0) (same ∙ d.3) e.3)
  one_verdict Yes (No addr why value) d (inr e) = absurd (omega (arith, d.2, e.1, within step start d.0 e.0 d.1))
  one_verdict (No addr why value) Yes (inl d) e =
      let same : all_violations step d.0 ≡ all_violations step e.0 = ap (all_violations step) (one_labelling step start d.0 e.0 d.1 e.1) in
      absurd (none_among _ (all_violations step d.0) (same ∙ e.3) d.3)
  one_verdict (No addr why value) Yes (inr d) e = absurd (omega (arith, e.2, d.1, within step start e.0 d.0 e.1))
  one_verdict (No addr why value) (No addr2 why2 value2) (inl d) (inl e) =
      let a : RuleViolation = record { addr = addr; why = why; value = value } in
      let b : RuleViolation = record { addr = addr2; why = why2; value = value2 } in
      let same : e.0 ≡ d.0 = one_labelling step start e.0 d.0 e.1 d.1 in
      (one_reason a b (all_violations step d.0) d.3 d.4 (subst (λ xs. AmongThem b (all_violations step xs)) same e.3) (subst (λ xs. BeforeAll b (all_violations step xs)) same e.4))
  one_verdict (No addr why value) (No addr2 why2 value2) (inl d) (inr e) = absurd (omega (arith, d.2, e.1, within step start d.0 e.0 d.1))
  one_verdict (No addr why value) (No addr2 why2 value2) (inr d) (inl e) = absurd (omega (arith, e.2, d.1, within step start e.0 d.0 e.1))
  one_verdict (No addr why value) (No addr2 why2 value2) (inr d) (inr e) = ap no_of (d.2 ∙ sym e.2)
