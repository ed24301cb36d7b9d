-- The least violation, and the verdict.
use Rattle.std.proofs.Common.{◌≡◌, ◌⊎◌, inl, inr, ℕ, zero, ◌+◌, ◌<◌, ◌≤◌, List, [], ◌∷◌, ◌++◌, length, drop, refl, sym, ap, ◌∙◌, subst, arith, Bool, true, false, nat_lt, ◌==◌, ◌&&◌, ◌||◌, Option, Some, None, append_assoc, append-nil}
use Rattle.std.proofs.lemmas.Bool.Decides.{nat_tests}
use Rattle.std.proofs.lemmas.Bool.{ltb-true, ltb-false, eqb-true, both_ways}
use Rattle.std.proofs.Math.ListN.{drop_of_length-le}
use Rattle.flow_rule.specs.declared.Reason.TheVariants.{TooMany}
use Rattle.flow_rule.specs.declared.AbstractState.{AbstractState}
use Rattle.flow_rule.specs.declared.Verdict.{Verdict}
use Rattle.flow_rule.specs.declared.Verdict.TheVariants.{No}
use Rattle.flow_rule.specs.Iterations.{RuleViolation, PointState, FlowStep, join_all, given_points, IsLabelling, all_violations}
use Rattle.flow_rule.specs.Violations.{number_of, NotAfter, BeforeAll, AmongThem}
use Rattle.flow_rule.specs.Verdict.{Decided}
use Rattle.flow_check.specs.declared.violation.Violation.{Violation}
use Rattle.flow_check.specs.declared.point.Point.{Point}
use Rattle.flow_check.specs.declared.labelling.Node.{Node}
use Rattle.flow_check.specs.declared.labelling.Changed.{Changed}
use Rattle.flow_check.specs.declared.call_string.CallString.{CallString}
use Rattle.flow_check.specs.internal.Violations.{before, lesser, lesser_if, violation_of, noted, rule_violation, verdict_of}
use Rattle.flow_check.specs.internal.Points.{point_at, points_of, fronts_of, list_of}
use Rattle.flow_check.specs.internal.Labellings.{changed_points, Reached}
use Rattle.flow_check.proofs.Violations.{noted_append}
use Rattle.flow_check.proofs.Iterating.{reached_rests, reached_many}
use Rattle.flow_check.proofs.Taking.{points_long}

-- ---- the order
abbrev Lex : ℕ → ℕ → ℕ → ℕ → Type 0
Lex n v m w = (n < m) ⊎ ((n ≡ m) × (v ≤ w))

eq_not : (a b : ℕ) → (a == b) ≡ false → b ≤ a → b < a
eq_not a b e h = grind (arith, nat_tests)

lex_true : (n m v w : ℕ) → (nat_lt n m || ((n == m) && nat_lt v w)) ≡ true → Lex n v m w
lex_true n m v w e = by (nat_lt n m) (n == m) (nat_lt v w) refl refl refl e
  where
    by : (a b c : Bool) → nat_lt n m ≡ a → (n == m) ≡ b → nat_lt v w ≡ c → (a || (b && c)) ≡ true → Lex n v m w
    by true b c p q r e = inl (ltb-true n m p)
    by false true true p q r e = let h = ltb-true v w r in inr (eqb-true n m q, omega (arith, h))
    by false _ _ p q r e = absurd cc

lex_false : (n m v w : ℕ) → (nat_lt n m || ((n == m) && nat_lt v w)) ≡ false → Lex m w n v
lex_false n m v w e = by (nat_lt n m) (n == m) (nat_lt v w) refl refl refl e
  where
    by : (a b c : Bool) → nat_lt n m ≡ a → (n == m) ≡ b → nat_lt v w ≡ c → (a || (b && c)) ≡ false → Lex m w n v
    by false true false p q r e = inr (sym (eqb-true n m q), ltb-false v w r)
    by false false c p q r e = inl (eq_not n m q (ltb-false n m p))
    by _ _ _ p q r e = absurd cc

lex_trans : (a b c d e f : ℕ) → Lex a b c d → Lex c d e f → Lex a b e f
lex_trans a b c d e f (inl p) (inl q) = inl (omega (arith, p, q))
lex_trans a b c d e f (inl p) (inr q) = let h = q.0 in inl (omega (arith, p, h))
lex_trans a b c d e f (inr p) (inl q) = let h = p.0 in inl (omega (arith, h, q))
lex_trans a b c d e f (inr p) (inr q) = let h = p.1 in let k = q.1 in inr (p.0 ∙ q.0, omega (arith, h, k))

-- the order at one address
abbrev second : Violation → Violation → Bool
second c old = nat_lt (number_of c.reason) (number_of old.reason) || ((number_of c.reason == number_of old.reason) && nat_lt c.value old.value)

after_trans : (x y z : RuleViolation) → NotAfter x y → NotAfter y z → NotAfter x z
after_trans x y z (inl p) (inl q) = inl (omega (arith, p, q))
after_trans x y z (inl p) (inr q) = inl (subst (λ a. x.addr < a) q.0 p)
after_trans x y z (inr p) (inl q) = inl (subst (λ a. a < z.addr) (sym p.0) q)
after_trans x y z (inr p) (inr q) = inr (p.0 ∙ q.0, lex_trans (number_of x.why) x.value (number_of y.why) y.value (number_of z.why) z.value p.1 q.1)

after_same : (x : RuleViolation) → NotAfter x x
after_same x = inr (refl, inr (refl, omega arith))

first_true : (c old : Violation) → before c old ≡ true → NotAfter (rule_violation c) (rule_violation old)
first_true c old e = by (nat_lt c.addr old.addr) (c.addr == old.addr) (second c old) refl refl refl e
  where
    by : (a b s : Bool) → nat_lt c.addr old.addr ≡ a → (c.addr == old.addr) ≡ b → second c old ≡ s → (a || (b && s)) ≡ true → NotAfter (rule_violation c) (rule_violation old)
    by true b s p q r e = inl (ltb-true c.addr old.addr p)
    by false true true p q r e = inr (eqb-true c.addr old.addr q, lex_true (number_of c.reason) (number_of old.reason) c.value old.value r)
    by false _ _ p q r e = absurd cc

first_false : (c old : Violation) → before c old ≡ false → NotAfter (rule_violation old) (rule_violation c)
first_false c old e = by (nat_lt c.addr old.addr) (c.addr == old.addr) (second c old) refl refl refl e
  where
    by : (a b s : Bool) → nat_lt c.addr old.addr ≡ a → (c.addr == old.addr) ≡ b → second c old ≡ s → (a || (b && s)) ≡ false → NotAfter (rule_violation old) (rule_violation c)
    by false true false p q r e = inr (sym (eqb-true c.addr old.addr q), lex_false (number_of c.reason) (number_of old.reason) c.value old.value r)
    by false false s p q r e = inl (eq_not c.addr old.addr q (ltb-false c.addr old.addr p))
    by _ _ _ p q r e = absurd cc

-- ---- the least of a list
abbrev Least : Option Violation → List RuleViolation → Type 0
Least None rs = rs ≡ []
Least (Some c) rs = AmongThem (rule_violation c) rs × BeforeAll (rule_violation c) rs

among_left : (r : RuleViolation) (xs ys : List RuleViolation) → AmongThem r xs → AmongThem r (xs ++ ys)
among_left r [] ys h = absurd h
among_left r (x ∷ xs) ys (inl e) = inl e
among_left r (x ∷ xs) ys (inr h) = inr (among_left r xs ys h)

among_right : (r : RuleViolation) (xs ys : List RuleViolation) → AmongThem r ys → AmongThem r (xs ++ ys)
among_right r [] ys h = h
among_right r (x ∷ xs) ys h = inr (among_right r xs ys h)

before_both : (r : RuleViolation) (xs ys : List RuleViolation) → BeforeAll r xs → BeforeAll r ys →
    BeforeAll r (xs ++ ys)
before_both r [] ys h k = k
before_both r (x ∷ xs) ys h k = (h.0, before_both r xs ys h.1 k)

before_more : (r s : RuleViolation) (xs : List RuleViolation) → NotAfter r s → BeforeAll s xs → BeforeAll r xs
before_more r s [] h k = tt
before_more r s (x ∷ xs) h k = (after_trans r s x h k.0, before_more r s xs h k.1)

least_one : (o : Option Violation) (c : Violation) (xs : List RuleViolation) → Least o xs → Least (lesser o c) (xs ++ rule_violation c ∷ [])
least_one None c xs h =
    subst (λ l. Least (Some c) (l ++ rule_violation c ∷ [])) (sym h) (inl refl, (after_same (rule_violation c), tt))
least_one (Some old) c xs h = by (before c old) refl
  where
    by : (b : Bool) → before c old ≡ b → Least (lesser_if b c old) (xs ++ rule_violation c ∷ [])
    by true e = (among_right (rule_violation c) xs (rule_violation c ∷ []) (inl refl), before_both (rule_violation c) xs (rule_violation c ∷ []) (before_more (rule_violation c) (rule_violation old) xs (first_true c old e) h.1) (after_same (rule_violation c), tt))
    by false e = (among_left (rule_violation old) xs (rule_violation c ∷ []) h.0, before_both (rule_violation old) xs (rule_violation c ∷ []) h.1 (first_false c old e, tt))

least_noted : (rs : List RuleViolation) (o : Option Violation) (xs : List RuleViolation) → Least o xs →
    Least (noted rs o) (xs ++ rs)
least_noted [] o xs h = subst (λ l. Least o l) (sym (append-nil xs)) h
least_noted (r ∷ rs) o xs h =
    subst (λ l. Least (noted rs (lesser o (violation_of r))) l) (append_assoc xs (r ∷ []) rs)
    (least_noted rs (lesser o (violation_of r)) (xs ++ r ∷ []) (least_one o (violation_of r) xs h))

-- ---- the code's loop
pub least_more : (step : PointState → FlowStep) (i : ℕ) (ns : List Node) (p : Point) (o r : Option Violation) → points_of (drop i ns) ≡ point_at p ∷ points_of (drop (i + 1) ns) → r ≡ noted (step (point_at p)).violations o →
    noted (all_violations step (points_of (drop i ns))) o ≡ noted (all_violations step (points_of (drop (i + 1) ns))) r
least_more step i ns p o r here e =
    ap (λ xs. noted (all_violations step xs) o) here ∙ noted_append (step (point_at p)).violations (all_violations step (points_of (drop (i + 1) ns))) o
    ∙ ap (noted (all_violations step (points_of (drop (i + 1) ns)))) (sym e)

pub least_end : (step : PointState → FlowStep) (n : ℕ) (ns : List Node) (o : Option Violation) → length ns ≤ n → noted (all_violations step (points_of (drop n ns))) o ≡ o
least_end step n ns o h = ap (λ p. noted (all_violations step (points_of p)) o) (drop_of_length-le ns {i = n} h)

-- ---- the verdict
pub decided_rest : (step : PointState → FlowStep) (start : PointState) (begin : ℕ) (ns : List Node) (o : Option Violation) (v : Verdict) → length ns ≤ 16384 → v ≡ verdict_of o → o ≡ noted (all_violations step (points_of ns)) None →
    IsLabelling step start (points_of ns) → Decided step start begin v
decided_rest step start begin ns o v few ev eo is =
    subst (λ v. Decided step start begin v) (sym ev) (by o (subst (λ o. Least o (all_violations step xs)) (sym eo) (least_noted (all_violations step xs) None [] refl)))
  where
    xs : List PointState
    xs = points_of ns

    long : length xs ≤ 16384
    long = let h = points_long ns in omega (arith, h, few)

    by : (o : Option Violation) → Least o (all_violations step xs) → Decided step start begin (verdict_of o)
    by None h = (xs, is, long, h)
    by (Some c) h = inl (xs, is, long, h.0, h.1)

pub started : (step : PointState → FlowStep) (ns0 ns : List Node) (a : ℕ) (r : CallString) (l : AbstractState) → ns0 ≡ [] → list_of r ≡ [] → ns ≡ ns0 ++ record { point = record { addr = a; call_string = r; state = l }; changed = true } ∷ [] →
    Reached step record { point = record { addr = a; call_string = [] }; state = l } ns
started step ns0 ns a r l none er e =
    subst (λ ns. Reached step record { point = record { addr = a; call_string = [] }; state = l } ns) (sym (e ∙ ap (λ ns. ns ++ record { point = record { addr = a; call_string = r; state = l }; changed = true } ∷ []) none))
    record { turns = zero; is = ap (λ t. record { point = record { addr = a; call_string = t }; state = l } ∷ []) er; clean = ((λ f. absurd (both_ways true f refl)), tt) }

none_left : (front : List Changed) → length front ≡ 0 → fronts_of front ≡ []
none_left [] e = refl
none_left (x ∷ xs) e = absurd (omega (arith, e))

pub rests_there : (step : PointState → FlowStep) (start : PointState) (ns cs : List Node) (front : List Changed) → Reached step start ns → fronts_of front ≡ changed_points ns → points_of cs ≡ points_of ns → length front ≡ 0 → IsLabelling step start (points_of cs)
rests_there step start ns cs front r f same e = reached_rests step start ns cs (fronts_of front) r f same (none_left front e)

pub decided_many : (step : PointState → FlowStep) (start : PointState) (begin : ℕ) (ns cs : List Node) (front : List PointState) → Reached step start ns → front ≡ changed_points ns → points_of cs ≡ points_of ns →
    16384 < length (join_all (given_points step front) (points_of cs)) → Decided step start begin (No begin TooMany 0)
decided_many step start begin ns cs front r f same many = let n = reached_many step start ns cs front r f same many in inr (n.0, n.1, refl)

-- the least of some violations
pub least_is : (rs : List RuleViolation) (v : Violation) → noted rs None ≡ Some v → AmongThem (rule_violation v) rs × BeforeAll (rule_violation v) rs
least_is rs v e = subst (λ o. Least o rs) e (least_noted rs None [] refl)
