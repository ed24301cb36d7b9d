-- Joining a point: the state of its place rises, or it comes last.
use Rattle.std.proofs.Common.{◌≡◌, ℕ, zero, suc, ◌<◌, List, [], ◌∷◌, ◌++◌, length, set, refl, sym, ap, ◌∙◌, arith, Bool, true, false, cond, nat_eq, ◌==◌, Option, Some}
use Rattle.std.specs.Cmp.Lexicographic.{pointwise}
use Rattle.std.specs.List.{slice_get}
use Rattle.std.proofs.lemmas.Bool.{and_parts, eqb-true}
use Rattle.std.proofs.lemmas.Option.{same_Some}
use Rattle.flow_rule.specs.Iterations.{ProgramPoint, PointState, same_point, join_in}
use Rattle.flow_check.specs.declared.point.Point.{Point}
use Rattle.flow_check.specs.declared.labelling.Node.{Node}
use Rattle.flow_check.specs.internal.Points.{program_point, point_at, points_of}
use Rattle.flow_check.specs.internal.Labellings.{same_found, same_at, joined_point}

list_is : (xs ys : List ℕ) → pointwise nat_eq xs ys ≡ true → xs ≡ ys
list_is [] [] e = refl
list_is (x ∷ xs) (y ∷ ys) e = let h = and_parts (x == y) (pointwise nat_eq xs ys) e in ap (λ i. i ∷ xs) (eqb-true x y h.0) ∙ ap (λ l. y ∷ l) (list_is xs ys h.1)
list_is _ _ e = absurd cc

abbrev make : ℕ → List ℕ → ProgramPoint
make a r = record { addr = a; call_string = r }

pub point_is : (p q : ProgramPoint) → same_point p q ≡ true → p ≡ q
point_is p q e = let h = and_parts (p.addr == q.addr) (pointwise nat_eq p.call_string q.call_string) e in ap (λ a. make a p.call_string) (eqb-true p.addr q.addr h.0) ∙ ap (make q.addr) (list_is p.call_string q.call_string h.1)

pub at_less : (p : ProgramPoint) (ns : List Node) (i : ℕ) → same_at p ns i ≡ true → i < length ns
at_less p [] i e = absurd cc
at_less p (n ∷ ns) zero e = omega arith
at_less p (n ∷ ns) (suc i) e = let h = at_less p ns i e in omega arith

-- ---- a point that is there, and not before
joins_found : (p : Point) (ns : List Node) (i : ℕ) (n : Node) → slice_get ns i ≡ Some n → same_at (program_point p) ns i ≡ true → ((k : ℕ) → k < i → same_at (program_point p) ns k ≡ false) →
    set (points_of ns) i (joined_point (point_at n.point) p.state) ≡ join_in (point_at p) (points_of ns)
joins_found p [] i n e s h = absurd cc
joins_found p (m ∷ ns) zero n e s h =
    ap (λ z. joined_point (point_at z.point) p.state ∷ points_of ns) (sym (same_Some m n e))
    ∙ ap (λ b. cond b (joined_point (point_at m.point) p.state ∷ points_of ns) (point_at m.point ∷ join_in (point_at p) (points_of ns))) (sym s)
joins_found p (m ∷ ns) (suc i) n e s h =
    let off : same_point (program_point m.point) (program_point p) ≡ false = h 0 (omega arith) in
    ap (λ xs. point_at m.point ∷ xs) (joins_found p ns i n e s (λ k lt. h (suc k) (omega (arith, lt))))
    ∙ ap (λ b. cond b (joined_point (point_at m.point) p.state ∷ points_of ns) (point_at m.point ∷ join_in (point_at p) (points_of ns))) (sym off)

pub joins_rise : (p : Point) (ns : List Node) (i : ℕ) → same_at (program_point p) ns i ≡ true → ((k : ℕ) → k < i → same_at (program_point p) ns k ≡ false) → (after : List PointState) →
    ((n : Node) → slice_get ns i ≡ Some n → after ≡ set (points_of ns) i (joined_point (point_at n.point) p.state)) → after ≡ join_in (point_at p) (points_of ns)
joins_rise p ns i s h after e = by (slice_get ns i) refl s
  where
    by : (o : Option Node) → slice_get ns i ≡ o → same_found (program_point p) o ≡ true → after ≡ join_in (point_at p) (points_of ns)
    by (Some n) f _ = e n f ∙ joins_found p ns i n f s h
    by _ f g = absurd cc

-- ---- one that is not
pub joins_new : (ns : List Node) (p : Point) → ((k : ℕ) → k < length ns → same_at (program_point p) ns k ≡ false) →
    points_of (ns ++ record { point = p; changed = true } ∷ []) ≡ join_in (point_at p) (points_of ns)
joins_new [] p h = refl
joins_new (n ∷ ns) p h = by (same_point (program_point n.point) (program_point p)) (h 0 (omega arith)) (joins_new ns p (λ k lt. h (suc k) (omega (arith, lt))))
  where
    by : (b : Bool) → b ≡ false → points_of (ns ++ record { point = p; changed = true } ∷ []) ≡ join_in (point_at p) (points_of ns) →
        point_at n.point ∷ points_of (ns ++ record { point = p; changed = true } ∷ []) ≡ cond b (joined_point (point_at n.point) p.state ∷ points_of ns) (point_at n.point ∷ join_in (point_at p) (points_of ns))
    by false e go = ap (λ xs. point_at n.point ∷ xs) go
    by true e go = absurd cc
