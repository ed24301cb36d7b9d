-- What is true of a labelling: where each program point stands, and which states changed.
use Rattle.std.specs.Prelude.{◌≡◌, ◌<◌, ℕ, List, [], ◌∷◌, length, slice_get, cond, Contains}
use Rattle.std.specs.Prelude.{Bool, true, false, Option, Some, None}
use Rattle.std.specs.BTreeMap.{BTreeMap, get_by}
use Rattle.std.specs.Cmp.Lexicographic.{slice_cmp}
use Rattle.std.specs.Ordering.{nat_cmp}
use Rattle.arrayvec.specs.ArrayVec.{ArrayVec}
use Rattle.flow_rule.specs.declared.AbstractState.{AbstractState}
use Rattle.flow_rule.specs.Absorbs.{Absorbs}
use Rattle.flow_rule.specs.Iterations.{ProgramPoint, PointState, FlowStep, same_point, join_states, given_by, iterations}
use Rattle.flow_check.specs.declared.labelling.Node.{Node}
use Rattle.flow_check.specs.internal.Points.{program_point, key_of, point_at, points_of}
use Rattle.flow_check.specs.internal.Weights.{weight_state}

abbrev pub same_found : ProgramPoint → Option Node → Bool
same_found p None = false
same_found p (Some n) = same_point (program_point n.point) p

-- whether the n-th of these is this program point
abbrev pub same_at : ProgramPoint → List Node → ℕ → Bool
same_at p ns n = same_found p (slice_get ns n)

-- none of these is this program point
abbrev pub Absent : ProgramPoint → List Node → Type 0
Absent p ns = (k : ℕ) → k < length ns → same_at p ns k ≡ false

-- the place that a map has of a program point
abbrev pub point_place : BTreeMap (ArrayVec ℕ) ℕ → ProgramPoint → Option ℕ
point_place places p = get_by (λ k. slice_cmp nat_cmp (key_of p) k.items) places

-- it has that of each of these
abbrev pub PointsPlaced : List Node → BTreeMap (ArrayVec ℕ) ℕ → Type 0
PointsPlaced ns places = (p : ProgramPoint) (i : ℕ) → same_at p ns i ≡ true → point_place places p ≡ Some i

-- a point to whose state another was joined
abbrev pub joined_point : PointState → AbstractState → PointState
joined_point x s = record { point = x.point; state = join_states x.state s }

abbrev pub is_marked : Option Node → Bool
is_marked None = false
is_marked (Some n) = n.changed

-- whether the n-th of these changed
abbrev pub mark_at : List Node → ℕ → Bool
mark_at ns n = is_marked (slice_get ns n)

-- none of them changed
abbrev pub NoMark : List Node → Type 0
NoMark ns = (i : ℕ) → mark_at ns i ≡ false

-- the places of those that changed are among these
abbrev pub Listed : List Node → List ℕ → Type 0
Listed ns places = (i : ℕ) → mark_at ns i ≡ true → Contains places i

-- no more changed than before
abbrev pub Fewer : List Node → List Node → Type 0
Fewer old new = (i : ℕ) → mark_at new i ≡ true → mark_at old i ≡ true

-- those that changed
abbrev pub changed_points : List Node → List PointState
changed_points [] = []
changed_points (n ∷ ns) = cond n.changed (point_at n.point ∷ changed_points ns) (changed_points ns)

-- joining this point changes nothing
abbrev pub Subsumed : PointState → List PointState → Type 0
Subsumed x [] = ⊥
Subsumed x (y ∷ ys) = cond (same_point y.point x.point) (Absorbs y.state x.state) (Subsumed x ys)

abbrev pub AllSubsumed : List PointState → List PointState → Type 0
AllSubsumed [] ys = Unit {0}
AllSubsumed (x ∷ xs) ys = Subsumed x ys × AllSubsumed xs ys

-- what a program point that did not change gives is subsumed by ys
abbrev pub Clean : (PointState → FlowStep) → List Node → List PointState → Type 0
Clean step [] ys = Unit {0}
Clean step (n ∷ ns) ys = (n.changed ≡ false → AllSubsumed (given_by (step (point_at n.point))) ys) × Clean step ns ys

-- the points that did not change are as before, the states of those that did have risen, and new ones changed
abbrev pub KeptPoints : List PointState → List Node → Type 0
KeptPoints [] [] = Unit {0}
KeptPoints [] (n ∷ ns) = (n.changed ≡ true) × KeptPoints [] ns
KeptPoints (x ∷ xs) [] = ⊥
KeptPoints (x ∷ xs) (n ∷ ns) =
    (n.changed ≡ false → point_at n.point ≡ x) × (n.changed ≡ true → weight_state x.state < weight_state n.point.state) × KeptPoints xs ns

-- what was kept until one labelling is kept until the next
abbrev pub StillKept : List Node → List Node → Type 0
StillKept old new = (xs : List PointState) → KeptPoints xs old → KeptPoints xs new

-- after some iterations
pub record Reached (step : PointState → FlowStep) (start : PointState) (ns : List Node) : Type 0 where
  pub turns : ℕ
  pub is : points_of ns ≡ iterations step start turns
  pub clean : Clean step ns (points_of ns)
