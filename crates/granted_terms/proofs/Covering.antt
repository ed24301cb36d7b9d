-- Points that lie below those of a labelling without a violation: so do all that they give, if their steps lie below.
use Rattle.std.proofs.Common.{◌≡◌, ◌⊎◌, inl, inr, ℕ, zero, suc, ◌≤◌, List, [], ◌∷◌, ◌++◌, length, map, refl, sym, ap, ◌∙◌, subst, arith, Bool, true, false, cond, nat_eq, ◌==◌}
use Rattle.std.specs.Cmp.{IsEquivalence, both_ways as same_truth}
use Rattle.std.specs.Cmp.Lexicographic.{pointwise}
use Rattle.std.specs.List.{AllByRecursion, IsDistinct}
use Rattle.std.specs.Set.{is_member}
use Rattle.std.proofs.lemmas.Bool.{and_parts, and_from, or_cases, or_left, or_right, eqb-true, both_ways}
use Rattle.std.proofs.lemmas.Cmp.{nat_eq_equiv, nat_list_eq_equiv}
use Rattle.std.proofs.lemmas.List.{length-map}
use Rattle.std.proofs.lemmas.Map.Made.{length-le_from_is_member}
use Rattle.flow_rule.specs.Iterations.{ProgramPoint, PointState, RuleViolation, FlowStep, same_point, join_in, join_all, given_by, given_points, iterations, IsLabelling, all_violations}
use Rattle.flow_rule.proofs.Plans.{none_left, none_right}
use Rattle.granted_terms.proofs.Forgiven.{Lower}
use Rattle.granted_terms.proofs.Lowering.{joined_point, lower_own, lower_then, lower_first, lower_second, lower_joined}

-- ---- program points
numbers_are : (xs ys : List ℕ) → pointwise nat_eq xs ys ≡ true → xs ≡ ys
numbers_are [] [] e = refl
numbers_are (x ∷ xs) (y ∷ ys) e =
    let h = and_parts (x == y) (pointwise nat_eq xs ys) e in
    ap (λ i. i ∷ xs) (eqb-true x y h.0) ∙ ap (λ l. y ∷ l) (numbers_are xs ys h.1)
numbers_are _ _ e = absurd cc

abbrev point : ℕ → List ℕ → ProgramPoint
point a r = record { addr = a; call_string = r }

point_is : (p q : ProgramPoint) → same_point p q ≡ true → p ≡ q
point_is p q e =
    let h = and_parts (p.addr == q.addr) (pointwise nat_eq p.call_string q.call_string) e in
    ap (λ a. point a p.call_string) (eqb-true p.addr q.addr h.0) ∙ ap (point q.addr) (numbers_are p.call_string q.call_string h.1)

point_own : (p : ProgramPoint) → same_point p p ≡ true
point_own p =
    and_from (p.addr == p.addr) (pointwise nat_eq p.call_string p.call_string) (nat_eq_equiv.refl p.addr)
    (nat_list_eq_equiv.refl p.call_string)

point_turned : (p q : ProgramPoint) → same_point p q ≡ true → same_point q p ≡ true
point_turned p q e = subst (λ r. same_point r p ≡ true) (point_is p q e) (point_own p)

are_points : IsEquivalence same_point
are_points =
    record {
      refl = point_own;
      symm = λ p q. same_truth (same_point p q) (same_point q p) (point_turned p q) (point_turned q p);
      congr = λ p q r e. ap (λ i. same_point i r) (point_is p q e);
    }

-- ---- a labelling has a program point once
abbrev program_points : List PointState → List ProgramPoint
program_points xs = map (λ (x : PointState). x.point) xs

abbrev pub Distinct : List PointState → Type 0
Distinct xs = IsDistinct same_point (program_points xs)

abbrev Apart : ProgramPoint → List PointState → Type 0
Apart p xs = AllByRecursion (λ q. same_point p q ≡ false) (program_points xs)

apart_in : (p : ProgramPoint) (x : PointState) (ys : List PointState) → same_point p x.point ≡ false → Apart p ys → Apart p (join_in x ys)
apart_in p x [] e h = (e, tt)
apart_in p x (y ∷ ys) e h = by (same_point y.point x.point) (apart_in p x ys e h.1)
  where
    by : (c : Bool) → Apart p (join_in x ys) → Apart p (cond c (joined_point y x ∷ ys) (y ∷ join_in x ys))
    by true k = (h.0, h.1)
    by false k = (h.0, k)

distinct_in : (x : PointState) (ys : List PointState) → Distinct ys → Distinct (join_in x ys)
unfolding IsDistinct
distinct_in x [] h = (tt, tt)
distinct_in x (y ∷ ys) h = by (same_point y.point x.point) refl (distinct_in x ys h.1)
  where
    by : (c : Bool) → same_point y.point x.point ≡ c → Distinct (join_in x ys) →
        Distinct (cond c (joined_point y x ∷ ys) (y ∷ join_in x ys))
    by true e k = (h.0, h.1)
    by false e k = (apart_in y.point x ys e h.0, k)

distinct_all : (xs ys : List PointState) → Distinct ys → Distinct (join_all xs ys)
distinct_all [] ys h = h
distinct_all (x ∷ xs) ys h = distinct_all xs (join_in x ys) (distinct_in x ys h)

pub distinct_iterations : (step : PointState → FlowStep) (start : PointState) (n : ℕ) → Distinct (iterations step start n)
unfolding IsDistinct
distinct_iterations step start zero = (tt, tt)
distinct_iterations step start (suc n) =
    let xs = iterations step start n in distinct_all (given_points step xs) xs (distinct_iterations step start n)

-- ---- below one of these points
abbrev pub Held : PointState → List PointState → Type 0
Held x [] = ⊥
Held x (t ∷ ts) = Lower t x ⊎ Held x ts

abbrev pub EachHeld : List PointState → List PointState → Type 0
EachHeld [] ts = Unit {0}
EachHeld (x ∷ xs) ts = Held x ts × EachHeld xs ts

pub held_lower : (x y : PointState) (ts : List PointState) → Lower x y → Held x ts → Held y ts
held_lower x y [] l h = absurd h
held_lower x y (t ∷ ts) l (inl k) = inl (lower_then t x y k l)
held_lower x y (t ∷ ts) l (inr h) = inr (held_lower x y ts l h)

each_left : (xs ys ts : List PointState) → EachHeld (xs ++ ys) ts → EachHeld xs ts
each_left [] ys ts h = tt
each_left (x ∷ xs) ys ts h = (h.0, each_left xs ys ts h.1)

each_right : (xs ys ts : List PointState) → EachHeld (xs ++ ys) ts → EachHeld ys ts
each_right [] ys ts h = h
each_right (x ∷ xs) ys ts h = each_right xs ys ts h.1

pub each_both : (xs ys ts : List PointState) → EachHeld xs ts → EachHeld ys ts → EachHeld (xs ++ ys) ts
each_both [] ys ts h k = k
each_both (x ∷ xs) ys ts h k = (h.0, each_both xs ys ts h.1 k)

-- ---- what is joined in lies below
held_in : (x : PointState) (ys : List PointState) → Held x (join_in x ys)
held_in x [] = inl (lower_own x)
held_in x (y ∷ ys) = by (same_point y.point x.point) refl (held_in x ys)
  where
    by : (c : Bool) → same_point y.point x.point ≡ c → Held x (join_in x ys) →
        Held x (cond c (joined_point y x ∷ ys) (y ∷ join_in x ys))
    by true e h = inl (lower_second y x (point_is y.point x.point e))
    by false e h = inr h

still_held : (z x : PointState) (ys : List PointState) → Held z ys → Held z (join_in x ys)
still_held z x [] h = absurd h
still_held z x (y ∷ ys) h = by (same_point y.point x.point) h (still_held z x ys)
  where
    by : (c : Bool) → Lower y z ⊎ Held z ys → (Held z ys → Held z (join_in x ys)) →
        Held z (cond c (joined_point y x ∷ ys) (y ∷ join_in x ys))
    by true (inl l) go = inl (lower_then (joined_point y x) y z (lower_first y x) l)
    by true (inr k) go = inr k
    by false (inl l) go = inl l
    by false (inr k) go = inr (go k)

held_after : (z : PointState) (xs ys : List PointState) → Held z ys → Held z (join_all xs ys)
held_after z [] ys h = h
held_after z (x ∷ xs) ys h = held_after z xs (join_in x ys) (still_held z x ys h)

all_held : (xs ys : List PointState) → EachHeld xs (join_all xs ys)
all_held [] ys = tt
all_held (x ∷ xs) ys = (held_after x xs (join_in x ys) (held_in x ys), all_held xs (join_in x ys))

start_held : (step : PointState → FlowStep) (start : PointState) (n : ℕ) → Held start (iterations step start n)
start_held step start zero = inl (lower_own start)
start_held step start (suc n) =
    let xs = iterations step start n in held_after start (given_points step xs) xs (start_held step start n)

-- ---- a labelling without a violation
-- a point without a violation, whose gifts lie below these
pub record Rests (step : PointState → FlowStep) (ts : List PointState) (x : PointState) : Type 0 where
  pub none : (step x).violations ≡ []
  pub gives : EachHeld (step x).gives ts

abbrev pub EachRests : (PointState → FlowStep) → List PointState → List PointState → Type 0
EachRests step ts [] = Unit {0}
EachRests step ts (x ∷ xs) = Rests step ts x × EachRests step ts xs

pub record Settled (step : PointState → FlowStep) (start : PointState) (ts : List PointState) : Type 0 where
  pub distinct : Distinct ts
  pub begins : Held start ts
  pub rests : EachRests step ts ts

given_is : (s : FlowStep) → s.violations ≡ [] → given_by s ≡ s.gives
given_is s e = by s.violations e
  where
    by : (rs : List RuleViolation) → rs ≡ [] → elim rs [ [] ↦ s.gives | _ ∷ _ ↦ [] ] ≡ s.gives
    by [] e = refl
    by (r ∷ rs) e = absurd cc

each_rests : (step : PointState → FlowStep) (ts xs : List PointState) → all_violations step xs ≡ [] → EachHeld (given_points step xs) ts →
    EachRests step ts xs
each_rests step ts [] e h = tt
each_rests step ts (x ∷ xs) e h =
    let none = none_left (step x).violations (all_violations step xs) e in
    let given = each_left (given_by (step x)) (given_points step xs) ts h in (
      record { none = none; gives = subst (λ gs. EachHeld gs ts) (given_is (step x) none) given },
      each_rests step ts xs (none_right (step x).violations (all_violations step xs) e)
          (each_right (given_by (step x)) (given_points step xs) ts h),
    )

pub settled : (step : PointState → FlowStep) (start : PointState) (ts : List PointState) → IsLabelling step start ts →
    all_violations step ts ≡ [] → Settled step start ts
settled step start ts l e =
    record {
      distinct = subst Distinct l.is (distinct_iterations step start l.iterations_to);
      begins = subst (Held start) l.is (start_held step start l.iterations_to);
      rests = each_rests step ts ts e
          (subst (EachHeld (given_points step ts)) l.stays (all_held (given_points step ts) ts));
    }

-- ---- what lies below distinct points stays so when it is joined
none_beside : (p q : ProgramPoint) (x : PointState) (ts : List PointState) → Apart p ts → p ≡ q → x.point ≡ q → Held x ts → ⊥
none_beside p q x [] a e f h = h
none_beside p q x (t ∷ ts) a e f (inl l) =
    both_ways (same_point p t.point) a.0 (subst (λ r. same_point p r ≡ true) (e ∙ sym f ∙ l.point) (point_own p))
none_beside p q x (t ∷ ts) a e f (inr h) = none_beside p q x ts a.1 e f h

joined_held : (y x : PointState) (ts : List PointState) → Distinct ts → y.point ≡ x.point → Held y ts → Held x ts → Held (joined_point y x) ts
unfolding IsDistinct
joined_held y x [] d e h k = absurd h
joined_held y x (t ∷ ts) d e (inl h) (inl k) = inl (lower_joined t y x h k)
joined_held y x (t ∷ ts) d e (inl h) (inr k) = absurd (none_beside t.point y.point x ts d.0 (sym h.point) (sym e) k)
joined_held y x (t ∷ ts) d e (inr h) (inl k) = absurd (none_beside t.point x.point y ts d.0 (sym k.point) e h)
joined_held y x (t ∷ ts) d e (inr h) (inr k) = inr (joined_held y x ts d.1 e h k)

in_held : (x : PointState) (ys ts : List PointState) → Distinct ts → Held x ts → EachHeld ys ts → EachHeld (join_in x ys) ts
in_held x [] ts d h k = (h, tt)
in_held x (y ∷ ys) ts d h k = by (same_point y.point x.point) refl (in_held x ys ts d h k.1)
  where
    by : (c : Bool) → same_point y.point x.point ≡ c → EachHeld (join_in x ys) ts →
        EachHeld (cond c (joined_point y x ∷ ys) (y ∷ join_in x ys)) ts
    by true e go = (joined_held y x ts d (point_is y.point x.point e) k.0 h, k.1)
    by false e go = (k.0, go)

pub all_in_held : (xs ys ts : List PointState) → Distinct ts → EachHeld xs ts → EachHeld ys ts → EachHeld (join_all xs ys) ts
all_in_held [] ys ts d h k = k
all_in_held (x ∷ xs) ys ts d h k = all_in_held xs (join_in x ys) ts d h.1 (in_held x ys ts d h.0 k)

-- ---- distinct points below others are no more than these
among_tops : (p : ProgramPoint) (x : PointState) (ts : List PointState) → same_point p x.point ≡ true → Held x ts → is_member same_point (program_points ts) p ≡ true
among_tops p x [] e h = absurd h
among_tops p x (t ∷ ts) e (inl l) =
    let here : same_point p t.point ≡ true = subst (λ q. same_point p q ≡ true) l.point e in
    or_left (same_point p t.point) (is_member same_point (program_points ts) p) here
among_tops p x (t ∷ ts) e (inr h) =
    or_right (same_point p t.point) (is_member same_point (program_points ts) p) (among_tops p x ts e h)

members_below : (p : ProgramPoint) (xs ts : List PointState) → EachHeld xs ts → is_member same_point (program_points xs) p ≡ true →
    is_member same_point (program_points ts) p ≡ true
members_below p [] ts h e = absurd cc
members_below p (x ∷ xs) ts h e =
    by (or_cases (same_point p x.point) (is_member same_point (program_points xs) p) e) (members_below p xs ts h.1)
  where
    by : (same_point p x.point ≡ true) ⊎ (is_member same_point (program_points xs) p ≡ true) →
        (is_member same_point (program_points xs) p ≡ true → is_member same_point (program_points ts) p ≡ true) →
        is_member same_point (program_points ts) p ≡ true
    by (inl f) go = among_tops p x ts f h.0
    by (inr f) go = go f

pub no_more : (xs ts : List PointState) → Distinct xs → EachHeld xs ts → length xs ≤ length ts
no_more xs ts d h =
    let few = length-le_from_is_member are_points (program_points xs) (program_points ts) d (λ p. members_below p xs ts h) in
    omega (arith, few, length-map xs (λ (x : PointState). x.point), length-map ts (λ (x : PointState). x.point))
