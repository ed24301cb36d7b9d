-- The places of program points, by address and call string.
use Rattle.std.proofs.Common.{◌≡◌, ◌⊎◌, inl, inr, ℕ, zero, suc, ◌<◌, List, [], ◌∷◌, ◌++◌, length, get_or, set, refl, sym, ap, ◌∙◌, subst, arith, Bool, true, false, cond, Option, Some, None}
use Rattle.std.specs.Prelude.{bytes_eq}
use Rattle.std.specs.List.{slice_get}
use Rattle.std.specs.Option.{is_some}
use Rattle.std.specs.BTreeMap.{BTreeMap, UpdatesBy, get_by}
use Rattle.std.specs.Map.{lookup}
use Rattle.std.specs.Cmp.Lexicographic.{slice_cmp}
use Rattle.std.specs.Ordering.{nat_cmp, is_eq}
use Rattle.std.specs.declared.cmp.Ordering.{Ordering}
use Rattle.std.proofs.lemmas.Bool.{both_ways, false_from_ne_true}
use Rattle.std.proofs.lemmas.Option.{same_Some}
use Rattle.std.proofs.lemmas.Map.Text.{is_eq-slice_cmp}
use Rattle.arrayvec.specs.ArrayVec.{ArrayVec}
use Rattle.flow_rule.specs.Iterations.{ProgramPoint, PointState, same_point}
use Rattle.flow_check.specs.declared.point.Point.{Point}
use Rattle.flow_check.specs.declared.labelling.Node.{Node}
use Rattle.flow_check.specs.internal.Points.{program_point, key_of, points_of}
use Rattle.flow_check.specs.internal.Labellings.{same_at, Absent, point_place, PointsPlaced}
use Rattle.flow_check.proofs.Labellings.{point_is, at_less}

-- the order of the keys
abbrev pub key_cmp : ArrayVec ℕ → ArrayVec ℕ → Ordering
key_cmp x y = slice_cmp nat_cmp x.items y.items

-- ---- a map with one place more
module _ (m n : BTreeMap (ArrayVec ℕ) ℕ) (key : ArrayVec ℕ) (p : ProgramPoint) (at : ℕ) (e : key.items ≡ key_of p) (u : UpdatesBy key_cmp (key_cmp key) m n (Some at)) where
  pub place_noted : point_place n p ≡ Some at
  place_noted = subst (λ (l : List ℕ). get_by (λ k. slice_cmp nat_cmp l k.items) n ≡ Some at) e u.1

  places_of : (q : ProgramPoint) → point_place n q ≡ cond (same_point p q) (Some at) (point_place m q)
  places_of q =
      let other : ArrayVec ℕ = record { items = key_of q } in
      let is : is_eq (key_cmp key other) ≡ same_point p q = is_eq-slice_cmp key.items (key_of q) ∙ ap (λ (l : List ℕ). bytes_eq l (key_of q)) e in
      u.0 other ∙ ap (λ b. cond b (Some at) (point_place m q)) is

  pub placed_noted : (ns : List Node) → Absent p ns → PointsPlaced ns m → PointsPlaced ns n
  placed_noted ns none h q i f = places_of q ∙ ap (λ b. cond b (Some at) (point_place m q)) (other (same_point p q) refl) ∙ h q i f
    where
      other : (b : Bool) → same_point p q ≡ b → same_point p q ≡ false
      other false g = g
      other true g = absurd (both_ways (same_at p ns i) (none i (at_less q ns i f)) (subst (λ r. same_at r ns i ≡ true) (sym (point_is p q g)) f))

-- the same entries
pub placed_entries : (m n : BTreeMap (ArrayVec ℕ) ℕ) → n.entries ≡ m.entries → (ns : List Node) → PointsPlaced ns m → PointsPlaced ns n
placed_entries m n e ns h q i f = ap (lookup (λ k. is_eq (slice_cmp nat_cmp (key_of q) k.items))) e ∙ h q i f

-- ---- other program points
pub placed_none : (places : BTreeMap (ArrayVec ℕ) ℕ) → PointsPlaced [] places
placed_none places q i f = absurd cc

pub same_pairs : (ns : List Node) (at : ℕ) (n d : Node) → program_point n.point ≡ program_point (get_or ns at d).point → (p : ProgramPoint) (i : ℕ) → same_at p (set ns at n) i ≡ same_at p ns i
same_pairs (m ∷ ns) zero n d e p zero = ap (λ q. same_point q p) e
same_pairs (m ∷ ns) (suc at) n d e p (suc i) = same_pairs ns at n d e p i
same_pairs _ at n d e p i = refl

pub placed_same : (ns ms : List Node) (places : BTreeMap (ArrayVec ℕ) ℕ) → ((p : ProgramPoint) (i : ℕ) → same_at p ms i ≡ same_at p ns i) → PointsPlaced ns places → PointsPlaced ms places
placed_same ns ms places e h q i f = h q i (sym (e q i) ∙ f)

abbrev hit : ProgramPoint → Option PointState → Bool
hit p None = false
hit p (Some x) = same_point x.point p

same_hit : (p : ProgramPoint) (ns : List Node) (i : ℕ) → same_at p ns i ≡ hit p (slice_get (points_of ns) i)
same_hit p [] i = refl
same_hit p (n ∷ ns) zero = refl
same_hit p (n ∷ ns) (suc i) = same_hit p ns i

pub placed_points : (ns ms : List Node) (places : BTreeMap (ArrayVec ℕ) ℕ) → points_of ms ≡ points_of ns → PointsPlaced ns places → PointsPlaced ms places
placed_points ns ms places e = placed_same ns ms places (λ p i. same_hit p ms i ∙ ap (λ xs. hit p (slice_get xs i)) e ∙ sym (same_hit p ns i))

push_same : (q : ProgramPoint) (ns : List Node) (n : Node) (i : ℕ) → same_at q (ns ++ n ∷ []) i ≡ true → (same_at q ns i ≡ true) ⊎ ((i ≡ length ns) × (same_point (program_point n.point) q ≡ true))
push_same q [] n zero f = inr (refl, f)
push_same q (m ∷ ns) n (suc i) f = by (push_same q ns n i f)
  where
    by : (same_at q ns i ≡ true) ⊎ ((i ≡ length ns) × (same_point (program_point n.point) q ≡ true)) → (same_at q ns i ≡ true) ⊎ ((suc i ≡ suc (length ns)) × (same_point (program_point n.point) q ≡ true))
    by (inl g) = inl g
    by (inr g) = inr (ap suc g.0, g.1)
push_same q _ n i f = inl f

pub placed_push : (ns : List Node) (places : BTreeMap (ArrayVec ℕ) ℕ) (p : Point) → point_place places (program_point p) ≡ Some (length ns) → PointsPlaced ns places →
    PointsPlaced (ns ++ record { point = p; changed = true } ∷ []) places
placed_push ns places p noted h q i f = by (push_same q ns record { point = p; changed = true } i f)
  where
    by : (same_at q ns i ≡ true) ⊎ ((i ≡ length ns) × (same_point (program_point p) q ≡ true)) → point_place places q ≡ Some i
    by (inl g) = h q i g
    by (inr g) = subst (λ r. point_place places r ≡ Some i) (point_is (program_point p) q g.1) (noted ∙ ap (λ k. Some k) (sym g.0))

-- ---- what the map tells
module _ (p : ProgramPoint) (ns : List Node) (places : BTreeMap (ArrayVec ℕ) ℕ) (h : PointsPlaced ns places) where
  pub first_there : (i : ℕ) → same_at p ns i ≡ true → (k : ℕ) → k < i → same_at p ns k ≡ false
  first_there i s k lt = false_from_ne_true (same_at p ns k) (λ f. let same : k ≡ i = same_Some k i (sym (h p k f) ∙ h p i s) in omega (arith, same, lt))

  pub absent_none : point_place places p ≡ None → Absent p ns
  absent_none e k lt = false_from_ne_true (same_at p ns k) (λ f. both_ways (is_some (point_place places p)) (ap is_some e) (ap is_some (h p k f)))

  pub absent_other : (at : ℕ) → point_place places p ≡ Some at → same_at p ns at ≡ false → Absent p ns
  absent_other at e off k lt = false_from_ne_true (same_at p ns k) (λ f. let same : at ≡ k = same_Some at k (sym e ∙ h p k f) in both_ways (same_at p ns k) (subst (λ i. same_at p ns i ≡ false) same off) f)
