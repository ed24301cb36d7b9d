-- Where a step goes on, with the test that decides it as an argument.
use Rattle.std.proofs.Common.{ℕ, List, [], ◌∷◌, Bool, if◌then◌else◌}
use Rattle.mod_layout.specs.declared.Module.{Module}
use Rattle.flow_rule.specs.Terms.{Terms}
use Rattle.flow_rule.specs.declared.Val.{Val}
use Rattle.flow_rule.specs.declared.Reason.TheVariants.{UnknownTarget}
use Rattle.flow_rule.specs.Iterations.{FlowStep}
use Rattle.flow_rule.specs.Going.{exit_step, goes, fails}

-- to a known place, inside the text or not
abbrev pub goes_in : Terms → Bool → Module → ℕ → ℕ → List ℕ → List Val → List Val → FlowStep
goes_in terms inside m to pc call_string core words =
    if inside then record { violations = []; gives = record { point = record { addr = to; call_string = call_string }; state = record { core = core; words = words } } ∷ [] }
    else exit_step terms m pc core words

-- to where PC then points, or nowhere
abbrev pub goes_unless : Terms → Bool → Module → ℕ → List ℕ → List Val → List Val → FlowStep
goes_unless terms stops m pc call_string core words = if stops then fails pc UnknownTarget 0 else goes terms m pc call_string core words
