-- Iterations end: each has a point more, or leaves the states less far to rise, or changes nothing. So every text has a verdict.
use Rattle.std.proofs.Common.{◌≡◌, ◌⊎◌, inl, inr, ℕ, zero, suc, ◌+◌, ◌<◌, ◌≤◌, List, [], ◌∷◌, length, Bool, true, false, cond, refl, sym, ◌∙◌, ap, subst, arith}
use Rattle.std.specs.Prelude.{◌==◌}
use Rattle.std.proofs.lemmas.Bool.{cases_lt}
use Rattle.flow_rule.specs.declared.AbstractState.{AbstractState}
use Rattle.flow_rule.specs.declared.Reason.TheVariants.{TooMany}
use Rattle.flow_rule.specs.declared.Val.{Val}
use Rattle.flow_rule.specs.declared.Val.TheVariants.{Known, Away, Public, Secret}
use Rattle.flow_rule.specs.declared.Verdict.{Verdict}
use Rattle.flow_rule.specs.declared.Verdict.TheVariants.{Yes, No}
use Rattle.flow_rule.specs.Violations.{number_of, NotAfter, BeforeAll, AmongThem}
use Rattle.flow_rule.specs.Iterations.{PointState, RuleViolation, FlowStep, same_point, join_states, join_in, join_all, given_points, iteration, iterations, IsLabelling, all_violations}
use Rattle.flow_rule.specs.Values.{join, join_each}
use Rattle.flow_rule.specs.Verdict.{Decided, most_points}

-- ---- how far states can rise

-- of a value, and 1 for its place, so that a shorter list has less as well
abbrev left : Val → ℕ
left (Known a) = 3
left Away = 3
left Public = 2
left Secret = 1

abbrev left_all : List Val → ℕ
left_all [] = 0
left_all (v ∷ vs) = left v + left_all vs

abbrev left_of_state : AbstractState → ℕ
left_of_state l = left_all l.core + left_all l.words

abbrev left_of : List PointState → ℕ
left_of [] = 0
left_of (x ∷ xs) = left_of_state x.state + left_of xs

some_left : (v : Val) → 1 ≤ left v
some_left (Known a) = omega arith
some_left _ = omega arith

join_left : (v w : Val) → (join v w ≡ v) ⊎ (left (join v w) < left v)
join_left (Known a) (Known b) = by (a == b)
  where
    by : (c : Bool) → (cond c (Known a) Public ≡ Known a) ⊎ (left (cond c (Known a) Public) < 3)
    by true = inl refl
    by false = inr (omega arith)
join_left Away Away = inl refl
join_left Public (Known b) = inl refl
join_left Public Away = inl refl
join_left Public Public = inl refl
join_left Secret w = inl refl
join_left _ _ = inr (omega arith)

each_left : (vs ws : List Val) → (join_each vs ws ≡ vs) ⊎ (left_all (join_each vs ws) < left_all vs)
each_left [] ws = inl refl
each_left (v ∷ vs) [] = let s = some_left v in inr (omega (arith, s))
each_left (v ∷ vs) (w ∷ ws) = by (join_left v w) (each_left vs ws)
  where
    by : (join v w ≡ v) ⊎ (left (join v w) < left v) → (join_each vs ws ≡ vs) ⊎ (left_all (join_each vs ws) < left_all vs) →
        ((join v w ∷ join_each vs ws) ≡ v ∷ vs) ⊎ (left (join v w) + left_all (join_each vs ws) < left v + left_all vs)
    by (inl e) (inl f) = inl (ap (λ i. i ∷ join_each vs ws) e ∙ ap (λ i. v ∷ i) f)
    by (inl e) (inr k) = let g = ap left e in inr (omega (arith, g, k))
    by (inr h) (inl f) = let g = ap left_all f in inr (omega (arith, g, h))
    by (inr h) (inr k) = inr (omega (arith, h, k))

state_left : (a b : AbstractState) → (join_states a b ≡ a) ⊎ (left_of_state (join_states a b) < left_of_state a)
state_left a b = by (each_left a.core b.core) (each_left a.words b.words)
  where
    state : List Val → List Val → AbstractState
    state c w = record { core = c; words = w }

    by : (join_each a.core b.core ≡ a.core) ⊎ (left_all (join_each a.core b.core) < left_all a.core) → (join_each a.words b.words ≡ a.words) ⊎ (left_all (join_each a.words b.words) < left_all a.words) →
        (join_states a b ≡ a) ⊎ (left_of_state (join_states a b) < left_of_state a)
    by (inl e) (inl f) = inl (ap (λ c. state c (join_each a.words b.words)) e ∙ ap (λ w. state a.core w) f)
    by (inl e) (inr k) = let g = ap left_all e in inr (omega (arith, g, k))
    by (inr h) (inl f) = let g = ap left_all f in inr (omega (arith, g, h))
    by (inr h) (inr k) = inr (omega (arith, h, k))

-- ---- what joins do

-- a point more, or as many, where nothing changed or the states have less far to rise
abbrev Moves : List PointState → List PointState → Type 0
Moves xs ys = (length xs < length ys) ⊎ ((length ys ≡ length xs) × ((ys ≡ xs) ⊎ (left_of ys < left_of xs)))

moves_then : (xs ys zs : List PointState) → Moves xs ys → Moves ys zs → Moves xs zs
moves_then xs ys zs (inl h) (inl k) = inl (omega (arith, h, k))
moves_then xs ys zs (inl h) (inr (e, r)) = inl (omega (arith, h, e))
moves_then xs ys zs (inr (e, r)) (inl h) = inl (omega (arith, e, h))
moves_then xs ys zs (inr (e, inl f)) (inr (g, inl h)) = inr (g ∙ e, inl (h ∙ f))
moves_then xs ys zs (inr (e, inl f)) (inr (g, inr h)) = let k = ap left_of f in inr (g ∙ e, inr (omega (arith, k, h)))
moves_then xs ys zs (inr (e, inr f)) (inr (g, inl h)) = let k = ap left_of h in inr (g ∙ e, inr (omega (arith, k, f)))
moves_then xs ys zs (inr (e, inr f)) (inr (g, inr h)) = inr (g ∙ e, inr (omega (arith, f, h)))

in_moves : (x : PointState) (ys : List PointState) → Moves ys (join_in x ys)
in_moves x [] = inl (omega arith)
in_moves x (y ∷ ys) = by (same_point y.point x.point) (state_left y.state x.state) (in_moves x ys)
  where
    point_state : AbstractState → PointState
    point_state l = record { point = y.point; state = l }

    by : (c : Bool) → (join_states y.state x.state ≡ y.state) ⊎ (left_of_state (join_states y.state x.state) < left_of_state y.state) → Moves ys (join_in x ys) →
        Moves (y ∷ ys) (cond c (record { point = y.point; state = join_states y.state x.state } ∷ ys) (y ∷ join_in x ys))
    by true (inl e) m = inr (refl, inl (ap (λ l. point_state l ∷ ys) e))
    by true (inr h) m = inr (refl, inr (omega (arith, h)))
    by false r (inl h) = inl (omega (arith, h))
    by false r (inr (e, inl f)) = inr (ap suc e, inl (ap (λ zs. y ∷ zs) f))
    by false r (inr (e, inr h)) = inr (ap suc e, inr (omega (arith, h)))

all_moves : (xs ys : List PointState) → Moves ys (join_all xs ys)
all_moves [] ys = inr (refl, inl refl)
all_moves (x ∷ xs) ys = moves_then ys (join_in x ys) (join_all xs (join_in x ys)) (in_moves x ys) (all_moves xs (join_in x ys))

moves_longer : (xs ys : List PointState) → Moves xs ys → length xs ≤ length ys
moves_longer xs ys (inl h) = omega (arith, h)
moves_longer xs ys (inr (e, r)) = omega (arith, e)

pub all_longer : (xs ys : List PointState) → length ys ≤ length (join_all xs ys)
all_longer xs ys = moves_longer ys (join_all xs ys) (all_moves xs ys)

-- ---- iterations end

module _ (step : PointState → FlowStep) (start : PointState) (most : ℕ) where
  abbrev after : ℕ → List PointState
  after n = iterations step start n

  -- with more points than this, or with an iteration that changes nothing
  abbrev Ended : Type 0
  Ended = ((n : ℕ) × (most < length (after n))) ⊎ ((n : ℕ) × (iteration step (after n) ≡ after n) × (length (after n) ≤ most))

  stay : (n : ℕ) → iteration step (after n) ≡ after n → (most < length (after n)) ⊎ (length (after n) ≤ most) → Ended
  stay n e (inl h) = inl (n, h)
  stay n e (inr h) = inr (n, e, h)

  turn : (d n : ℕ) → ((k : ℕ) → most < d + length (after k) → Ended) → (length (iteration step (after n)) ≡ length (after n) → left_of (iteration step (after n)) < left_of (after n) → Ended)
      → most < suc d + length (after n) → Moves (after n) (iteration step (after n)) → Ended
  turn d n more next h (inl l) = more (suc n) (omega (arith, h, l))
  turn d n more next h (inr (e, inl f)) = stay n f (cases_lt most (length (after n)))
  turn d n more next h (inr (e, inr l)) = next e l

  inner : (d : ℕ) → ((k : ℕ) → most < d + length (after k) → Ended) → (r n : ℕ) → most < suc d + length (after n) → left_of (after n) ≤ r → Ended
  inner d more zero n h k = turn d n more (λ e l. absurd (omega (arith, k, l))) h (all_moves (given_points step (after n)) (after n))
  inner d more (suc r) n h k =
      turn d n more (λ e l. inner d more r (suc n) (omega (arith, h, e)) (omega (arith, k, l))) h (all_moves (given_points step (after n)) (after n))

  outer : (d n : ℕ) → most < d + length (after n) → Ended
  outer zero n h = inl (n, omega (arith, h))
  outer (suc d) n h = inner d (outer d) (left_of (after n)) n h (omega arith)

  ended : Ended
  ended = outer (suc most) 0 (omega arith)

-- ---- the least violation

same : (x : RuleViolation) → NotAfter x x
same x = inr (refl, inr (refl, omega arith))

then : (x y z : RuleViolation) → NotAfter x y → NotAfter y z → NotAfter x z
then x y z (inl h) (inl k) = inl (omega (arith, h, k))
then x y z (inl h) (inr (e, r)) = inl (omega (arith, h, e))
then x y z (inr (e, r)) (inl h) = inl (omega (arith, e, h))
then x y z (inr (e, inl h)) (inr (f, inl k)) = inr (e ∙ f, inl (omega (arith, h, k)))
then x y z (inr (e, inl h)) (inr (f, inr (g, k))) = inr (e ∙ f, inl (omega (arith, h, g)))
then x y z (inr (e, inr (g, k))) (inr (f, inl h)) = inr (e ∙ f, inl (omega (arith, h, g)))
then x y z (inr (e, inr (g, k))) (inr (f, inr (h, l))) = inr (e ∙ f, inr (g ∙ h, omega (arith, k, l)))

total : (x y : RuleViolation) → NotAfter x y ⊎ NotAfter y x
total x y = by (cases_lt x.addr y.addr) (cases_lt y.addr x.addr) (cases_lt (number_of x.why) (number_of y.why)) (cases_lt (number_of y.why) (number_of x.why)) (cases_lt x.value y.value)
  where
    by : (x.addr < y.addr) ⊎ (y.addr ≤ x.addr) → (y.addr < x.addr) ⊎ (x.addr ≤ y.addr) → (number_of x.why < number_of y.why) ⊎ (number_of y.why ≤ number_of x.why)
        → (number_of y.why < number_of x.why) ⊎ (number_of x.why ≤ number_of y.why) → (x.value < y.value) ⊎ (y.value ≤ x.value) → NotAfter x y ⊎ NotAfter y x
    by (inl h) b c d e = inl (inl h)
    by (inr g) (inl h) c d e = inr (inl h)
    by (inr g) (inr h) (inl k) d e = inl (inr (omega (arith, g, h), inl k))
    by (inr g) (inr h) (inr j) (inl k) e = inr (inr (omega (arith, g, h), inl k))
    by (inr g) (inr h) (inr j) (inr k) (inl l) = inl (inr (omega (arith, g, h), inr (omega (arith, j, k), omega (arith, l))))
    by (inr g) (inr h) (inr j) (inr k) (inr l) = inr (inr (omega (arith, g, h), inr (omega (arith, j, k), l)))

earlier : (x r : RuleViolation) (xs : List RuleViolation) → NotAfter x r → BeforeAll r xs → BeforeAll x xs
earlier x r [] h b = tt
earlier x r (y ∷ ys) h b = (then x r y h b.0, earlier x r ys h b.1)

abbrev Least : List RuleViolation → Type 0
Least xs = (r : RuleViolation) × AmongThem r xs × BeforeAll r xs

least : (x : RuleViolation) (xs : List RuleViolation) → Least (x ∷ xs)
least x [] = (x, inl refl, (same x, tt))
least x (y ∷ ys) = by (least y ys)
  where
    pick : (l : Least (y ∷ ys)) → NotAfter x l.0 ⊎ NotAfter l.0 x → Least (x ∷ y ∷ ys)
    pick l (inl h) = (x, inl refl, (same x, earlier x l.0 (y ∷ ys) h l.2))
    pick l (inr h) = (l.0, inr l.1, (h, l.2))

    by : Least (y ∷ ys) → Least (x ∷ y ∷ ys)
    by l = pick l (total x l.0)

-- ---- verdicts

module _ (step : PointState → FlowStep) (start : PointState) (begin : ℕ) where
  by_violations : (xs : List PointState) → IsLabelling step start xs → length xs ≤ most_points → (rs : List RuleViolation) → all_violations step xs ≡ rs → (v : Verdict) × Decided step start begin v
  by_violations xs l few [] e = (Yes, (xs, l, few, e))
  by_violations xs l few (r ∷ rs) e =
      let first = least r rs in
      (No first.0.addr first.0.why first.0.value, inl (xs, l, few, subst (AmongThem first.0) (sym e) first.1, subst (BeforeAll first.0) (sym e) first.2))

  by_end : Ended step start most_points → (v : Verdict) × Decided step start begin v
  by_end (inl (n, h)) = (No begin TooMany 0, inr (n, h, refl))
  by_end (inr (n, e, h)) = by_violations (iterations step start n) (record { iterations_to = n; is = refl; stays = e }) h (all_violations step (iterations step start n)) refl

  pub some_verdict : (v : Verdict) × Decided step start begin v
  some_verdict = by_end (ended step start most_points)
