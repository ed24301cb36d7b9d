-- A labelling, for any step: abstract states at program points, in iterations up to the fixpoint.
use Rattle.flow_rule.specs.declared.AbstractState.{AbstractState}
use Rattle.flow_rule.specs.declared.Reason.{Reason}
use Rattle.std.specs.Prelude.{◌≡◌, ℕ, zero, suc, List, [], ◌∷◌, flat_map, fold, nat_eq, ◌==◌, if◌then◌else◌, Bool, ◌&&◌}
use Rattle.std.specs.Cmp.Lexicographic.{pointwise}
use Rattle.flow_rule.specs.Values.{join_each}

-- a program point: an address with its call string, the return addresses, the newest last
pub record ProgramPoint : Type 0 where
  pub addr : ℕ
  pub call_string : List ℕ

-- a program point with its state
pub record PointState : Type 0 where
  pub point : ProgramPoint
  pub state : AbstractState

pub record RuleViolation : Type 0 where
  pub addr : ℕ
  pub why : Reason
  pub value : ℕ

pub record FlowStep : Type 0 where
  pub violations : List RuleViolation
  pub gives : List PointState

abbrev pub same_point : ProgramPoint → ProgramPoint → Bool
same_point p q = (p.addr == q.addr) && pointwise nat_eq p.call_string q.call_string

abbrev pub join_states : AbstractState → AbstractState → AbstractState
join_states a b = record { core = join_each a.core b.core; words = join_each a.words b.words }

-- a state joined to its point's
abbrev pub join_in : PointState → List PointState → List PointState
join_in x [] = x ∷ []
join_in x (y ∷ ys) = if same_point y.point x.point then record { point = y.point; state = join_states y.state x.state } ∷ ys else y ∷ join_in x ys

abbrev pub join_all : List PointState → List PointState → List PointState
join_all xs ys = fold (λ zs x. join_in x zs) ys xs

-- a point with a violation gives nothing
abbrev pub given_by : FlowStep → List PointState
given_by s = elim s.violations [ [] ↦ s.gives | _ ∷ _ ↦ [] ]

abbrev pub given_points : (PointState → FlowStep) → List PointState → List PointState
given_points step xs = flat_map (λ x. given_by (step x)) xs

abbrev pub iteration : (PointState → FlowStep) → List PointState → List PointState
iteration step xs = join_all (given_points step xs) xs

abbrev pub iterations : (PointState → FlowStep) → PointState → ℕ → List PointState
iterations step start zero = start ∷ []
iterations step start (suc n) = iteration step (iterations step start n)

-- the first iteration that changes nothing
pub record IsLabelling (step : PointState → FlowStep) (start : PointState) (xs : List PointState) : Type 0 where
  pub iterations_to : ℕ
  pub is : iterations step start iterations_to ≡ xs
  pub stays : iteration step xs ≡ xs

abbrev pub all_violations : (PointState → FlowStep) → List PointState → List RuleViolation
all_violations step xs = flat_map (λ x. (step x).violations) xs
