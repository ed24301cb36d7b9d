-- Where an instruction goes on: to a place in the text with its state, or out of the text.
use Rattle.std.specs.Prelude.{ℕ, List, [], ◌∷◌, ◌++◌, if◌then◌else◌}
use Rattle.mod_layout.specs.declared.Module.{Module}
use Rattle.mod_layout.specs.Table.{holds}
use Rattle.flow_rule.specs.Terms.{Terms}
use Rattle.flow_rule.specs.declared.Val.{Val}
use Rattle.flow_rule.specs.declared.Val.TheVariants.{Known, Away, Public}
use Rattle.flow_rule.specs.Values.{set_each, val}
use Rattle.flow_rule.specs.declared.Reason.{Reason}
use Rattle.flow_rule.specs.declared.Reason.TheVariants.{UnknownTarget}
use Rattle.flow_rule.specs.Iterations.{RuleViolation, FlowStep}
use Rattle.flow_rule.specs.Violations.{violation, exit_violations, word_violations}

-- to close, no register and no flag may be secret but the answers, which are as if they were Public: the data become 0
abbrev pub closes : Terms → ℕ → List Val → FlowStep
closes terms pc core = record { violations = exit_violations 16 0 pc (set_each terms.answers Public core); gives = [] }

-- to leave, no public word of the data either
abbrev pub exit_step : Terms → Module → ℕ → List Val → List Val → FlowStep
exit_step terms m pc core words = record { violations = word_violations m pc words terms.public ++ exit_violations 16 0 pc (set_each terms.answers Public core); gives = [] }

-- on from pc with this core: to a known place, where inside the text the state is handed on, or away
abbrev pub goes_by : Terms → Val → Module → ℕ → List ℕ → List Val → List Val → FlowStep
goes_by terms (Known to) m pc call_string core words =
    if holds m.text to then record { violations = []; gives = record { point = record { addr = to; call_string = call_string }; state = record { core = core; words = words } } ∷ [] }
    else exit_step terms m pc core words
goes_by terms Away m pc call_string core words = exit_step terms m pc core words
goes_by terms _ m pc call_string core words = record { violations = violation pc UnknownTarget 0; gives = [] }

-- on from pc, to where PC then points
abbrev pub goes : Terms → Module → ℕ → List ℕ → List Val → List Val → FlowStep
goes terms m pc call_string core words = goes_by terms (val core 0) m pc call_string core words

-- a branch that goes both ways
abbrev pub both : FlowStep → FlowStep → FlowStep
both a b = record { violations = a.violations ++ b.violations; gives = a.gives ++ b.gives }

abbrev pub also : List RuleViolation → FlowStep → FlowStep
also rs s = record { violations = rs ++ s.violations; gives = s.gives }

-- nothing is met behind this instruction
abbrev pub fails : ℕ → Reason → ℕ → FlowStep
fails pc why v = record { violations = violation pc why v; gives = [] }
