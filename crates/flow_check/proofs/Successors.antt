-- What the changed program points give, one after another.
use Rattle.std.proofs.Common.{◌≡◌, ℕ, List, [], ◌∷◌, refl, sym, ap, ◌∙◌, Bool, true, false, Option, Some, None, is_some}
use Rattle.flow_check.proofs.Iterating.{join_append}
use Rattle.flow_rule.specs.declared.AbstractState.{AbstractState}
use Rattle.flow_rule.specs.Iterations.{RuleViolation, FlowStep, PointState, join_all, given_by, given_points}
use Rattle.flow_check.specs.declared.violation.Violation.{Violation}
use Rattle.flow_check.specs.internal.Violations.{lesser, lesser_if, noted, violation_of}
use Rattle.flow_check.specs.internal.Points.{addrs_of, points_at}

-- a violation stays one
abbrev SomeOne : Option Violation → Type 0
SomeOne None = ⊥
SomeOne (Some c) = Unit {0}

lesser_some : (o : Option Violation) (c : Violation) → SomeOne (lesser o c)
lesser_some None c = tt
lesser_some (Some d) c = by _
  where
    by : (b : Bool) → SomeOne (lesser_if b c d)
    by true = tt
    by false = tt

noted_some : (rs : List RuleViolation) (o : Option Violation) → SomeOne o → SomeOne (noted rs o)
noted_some [] o h = h
noted_some (r ∷ rs) o h = noted_some rs (lesser o (violation_of r)) (lesser_some o (violation_of r))

pub none_some : (o : Option Violation) → is_some o ≡ false → o ≡ None
none_some None e = refl
none_some (Some c) e = absurd cc

pub none_found : (rs : List RuleViolation) → noted rs None ≡ None → rs ≡ []
none_found [] e = refl
none_found (r ∷ rs) e = absurd (by (noted rs (Some (violation_of r))) (noted_some rs (Some (violation_of r)) tt) e)
  where
    by : (o : Option Violation) → SomeOne o → o ≡ None → ⊥
    by None h e = h
    by (Some c) h e = cc

pub some_found : (rs : List RuleViolation) (c : Violation) → noted rs None ≡ Some c → (s : FlowStep) → s.violations ≡ rs → given_by s ≡ []
some_found rs c e s f = by s.violations (ap (λ x. noted x None) f ∙ e)
  where
    by : (xs : List RuleViolation) → noted xs None ≡ Some c →
        given_by (record { violations = xs; gives = s.gives }) ≡ []
    by [] e = absurd cc
    by (x ∷ xs) e = refl

successors_all : (s : FlowStep) → s.violations ≡ [] → given_by s ≡ s.gives
successors_all s e = by s.violations e
  where
    by : (xs : List RuleViolation) → xs ≡ [] → given_by (record { violations = xs; gives = s.gives }) ≡ s.gives
    by [] e = refl
    by (x ∷ xs) e = absurd cc

-- a program point without a violation
pub give_some : (step : PointState → FlowStep) (x : PointState) (more : List PointState) (ts rs : List ℕ) (l : AbstractState) (ps qs : List PointState) → (step x).violations ≡ [] → ts ≡ addrs_of (step x).gives →
    ((step x).violations ≡ [] → (step x).gives ≡ points_at (addrs_of (step x).gives) rs l) → qs ≡ join_all (points_at ts rs l) ps →
    join_all (given_points step (x ∷ more)) ps ≡ join_all (given_points step more) qs
give_some step x more ts rs l ps qs calm et eg eq =
    join_append (given_by (step x)) (given_points step more) ps
    ∙ ap (λ g. join_all (given_points step more) (join_all g ps)) (successors_all (step x) calm ∙ eg calm ∙ sym (ap (λ t. points_at t rs l) et))
    ∙ ap (join_all (given_points step more)) (sym eq)

-- a program point with one
pub give_none : (step : PointState → FlowStep) (x : PointState) (more : List PointState) (ps : List PointState) → given_by (step x) ≡ [] →
    join_all (given_points step (x ∷ more)) ps ≡ join_all (given_points step more) ps
give_none step x more ps e =
    join_append (given_by (step x)) (given_points step more) ps ∙ ap (λ g. join_all (given_points step more) (join_all g ps)) e
