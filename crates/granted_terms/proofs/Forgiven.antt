-- Terms within others, and what their step may refuse where that of the others has no violation.
use Rattle.std.proofs.Common.{◌≡◌, ℕ, List, [], ◌∷◌, true, false}
use Rattle.flow_rule.specs.Terms.{Terms}
use Rattle.flow_rule.specs.declared.Reason.TheVariants.{SecretAtExit, DataAtExit}
use Rattle.flow_rule.specs.Iterations.{PointState, RuleViolation, FlowStep}
use Rattle.flow_laws.proofs.Telling.{on_list}
use Rattle.flow_rule.proofs.Absorbing.{AbsorbsEach}

-- no answer that the others have not, and each of their public words
pub record Within (now other : Terms) : Type 0 where
  pub answers : (n : ℕ) → on_list now.answers n ≡ true → on_list other.answers n ≡ true
  pub public : (a : ℕ) → on_list other.public a ≡ true → on_list now.public a ≡ true

-- a register that is an answer of the others alone, or a word that is public here alone
pub data Forgiven (now other : Terms) (r : RuleViolation) : Type 0 where
  ByAnswer : r.why ≡ SecretAtExit → on_list other.answers r.value ≡ true → on_list now.answers r.value ≡ false → Forgiven now other r
  ByWord : r.why ≡ DataAtExit → on_list now.public r.value ≡ true → on_list other.public r.value ≡ false → Forgiven now other r

abbrev pub EachForgiven : Terms → Terms → List RuleViolation → Type 0
EachForgiven now other [] = Unit {0}
EachForgiven now other (r ∷ rs) = Forgiven now other r × EachForgiven now other rs

-- the same program point, whose state the first's absorbs
pub record Lower (top low : PointState) : Type 0 where
  pub point : low.point ≡ top.point
  pub core : AbsorbsEach top.state.core low.state.core
  pub words : AbsorbsEach top.state.words low.state.words

-- two lists of points, one by one
abbrev pub EachLower : List PointState → List PointState → Type 0
EachLower [] [] = Unit {0}
EachLower (x ∷ xs) (y ∷ ys) = Lower x y × EachLower xs ys
EachLower _ _ = ⊥

-- a step under these terms, at a point that is lower than one where the step under the others has no violation
pub record Follows (now other : Terms) (top low : FlowStep) : Type 0 where
  pub forgiven : EachForgiven now other low.violations
  pub gives : EachLower top.gives low.gives
