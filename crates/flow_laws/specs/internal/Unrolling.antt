-- What an exploration shows that is complete.
use Rattle.std.specs.Prelude.{◌≡◌, ◌⊎◌, ℕ, zero, suc, List, [], ◌∷◌, true}
use Rattle.mod_layout.specs.declared.Module.{Module}
use Rattle.arm_balance.specs.declared.Arm.{Arm}
use Rattle.flow_rule.specs.Terms.{Terms}
use Rattle.flow_rule.specs.Iterations.{PointState, FlowStep}
use Rattle.flow_rule.specs.Arms.{flow_under}
use Rattle.flow_rule.specs.Values.{known_flags}
use Rattle.flow_laws.specs.Exploring.{is_known, first_state}

abbrev pub Each : (PointState → Type 0) → List PointState → Type 0
Each P [] = Unit {0}
Each P (x ∷ xs) = P x × Each P xs

-- by at most n steps on each way, with no violation, to where a call ends or a kept state absorbs
abbrev pub Leads : (PointState → FlowStep) → List PointState → ℕ → PointState → Type 0
Leads step kept zero x = (is_known kept x ≡ true)
Leads step kept (suc n) x = (is_known kept x ≡ true) ⊎ (((step x).violations ≡ []) × Each (Leads step kept n) (step x).gives)

-- a state without a violation whose step leads so
abbrev pub GoesOn : (PointState → FlowStep) → List PointState → ℕ → PointState → Type 0
GoesOn step kept n x = ((step x).violations ≡ []) × Each (Leads step kept n) (step x).gives

-- the start leads to kept states, and each of these to kept states again
pub record IsUnrolled (step : PointState → FlowStep) (start : PointState) (kept : List PointState) (steps : ℕ) : Type 0 where
  pub begins : Leads step kept steps start
  pub goes_on : Each (GoesOn step kept steps) kept

-- a text is unrolled under terms, with these certificates, where states know of all data words
abbrev pub UnrolledUnder : Terms → Module → List ℕ → List Arm → Type 0
UnrolledUnder terms m text arms =
    (kept : List PointState) × (steps : ℕ) × IsUnrolled (flow_under known_flags terms m text arms) (first_state terms m text) kept steps
