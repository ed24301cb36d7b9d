-- What is told of an exploration's end.
use Rattle.std.proofs.Common.{◌≡◌, ℕ, ◌-◌, List, refl, sym, ap, subst}
use Rattle.flow_rule.specs.declared.Unrolling.{Unrolling}
use Rattle.flow_rule.specs.declared.Unrolling.TheVariants.{Yes, No, Unfinished as Stopped}
use Rattle.flow_rule.specs.Iterations.{PointState, RuleViolation}
use Rattle.flow_laws.specs.Exploring.{Explored, Complete, Violated, Unfinished, IsUnrolling}
use Rattle.flow_check.specs.declared.violation.Violation.{Violation}
use Rattle.flow_check.specs.internal.Violations.{rule_violation}
use Rattle.flow_check.specs.internal.Exploring.{IsLeast}
use Rattle.flow_check.proofs.Verdicts.{least_is}

pub complete : (steps left n : ℕ) (x : Explored) → n ≡ steps - left → ((kept : List PointState) × (x ≡ Complete left kept)) → IsUnrolling steps x (Yes n)
complete steps left n x e h = subst (λ y. IsUnrolling steps y (Yes n)) (sym h.1) (ap Yes e)

pub violated : (steps left : ℕ) (v : Violation) (x : Explored) → ((vs : List RuleViolation) × IsLeast v vs × (x ≡ Violated left vs)) → IsUnrolling steps x (No v.addr v.reason v.value)
violated steps left v x h =
    let l = least_is h.0 v h.1 in
    subst (λ y. IsUnrolling steps y (No v.addr v.reason v.value)) (sym h.2) (rule_violation v, l.0, l.1, refl)

pub unfinished : (steps left addr n : ℕ) (x : Explored) → n ≡ steps - left → x ≡ Unfinished left addr → IsUnrolling steps x (Stopped addr n)
unfinished steps left addr n x e h = subst (λ y. IsUnrolling steps y (Stopped addr n)) (sym h) (ap (Stopped addr) e)

-- a yes is an exploration that is complete
pub yes_complete : (steps : ℕ) (x : Explored) (u : Unrolling) (n : ℕ) → IsUnrolling steps x u → u ≡ Yes n → (left : ℕ) × (kept : List PointState) × (x ≡ Complete left kept)
yes_complete steps (Complete left kept) u n h e = (left, kept, refl)
yes_complete steps (Violated left vs) u n h e = let f = h.3 in absurd cc
yes_complete steps (Unfinished left addr) u n h e = absurd cc
