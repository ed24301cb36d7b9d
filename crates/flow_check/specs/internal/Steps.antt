-- Steps as the code tells them: addresses, with one call string and one state but for PC.
use Rattle.insn_decode.specs.declared.insn.Condition.{Condition}
use Rattle.insn_decode.specs.declared.insn.Condition.TheVariants.{Always}
use Rattle.std.specs.Prelude.{◌≡◌, ◌++◌, ℕ, [], None}
use Rattle.insn_decode.specs.declared.insn.Insn.{Insn}
use Rattle.insn_decode.specs.declared.insn.Insn.TheVariants.{Jump}
use Rattle.mod_layout.specs.declared.Module.{Module}
use Rattle.flow_rule.specs.Terms.{Terms}
use Rattle.flow_rule.specs.declared.AbstractState.{AbstractState}
use Rattle.flow_rule.specs.declared.Val.TheVariants.{Public}
use Rattle.flow_rule.specs.Iterations.{FlowStep}
use Rattle.flow_rule.specs.Values.{put_val, FlagDomain}
use Rattle.flow_rule.specs.Does.{does_val, past_val}
use Rattle.flow_rule.specs.Going.{goes}
use Rattle.flow_check.specs.declared.call_string.CallString.{CallString}
use Rattle.flow_check.specs.declared.step.Stepped.{Stepped}
use Rattle.flow_check.specs.internal.Violations.{noted}
use Rattle.flow_check.specs.internal.Points.{list_of, addrs_of, points_at}

-- without violations, all that a step gives has this call string and this state
abbrev pub SuccessorsAlike : FlowStep → CallString → AbstractState → Type 0
SuccessorsAlike step call_string state =
    step.violations ≡ [] → step.gives ≡ points_at (addrs_of step.gives) (list_of call_string) state

-- a step was told: the least of its violations and of what was there, and where it goes on
pub record Tells (step : FlowStep) (old new : Stepped) (state : AbstractState) : Type 0 where
  pub least : new.least ≡ noted step.violations old.least
  pub targets : new.targets.items ≡ old.targets.items ++ addrs_of step.gives
  pub successors : SuccessorsAlike step new.call_string state

-- the same where nothing was told before
pub record Gives (step : FlowStep) (new : Stepped) (state : AbstractState) : Type 0 where
  pub least : new.least ≡ noted step.violations None
  pub targets : new.targets.items ≡ addrs_of step.gives
  pub successors : SuccessorsAlike step new.call_string state

-- the step to where a jump goes
abbrev pub jump_step : FlagDomain → Terms → Module → Insn → ℕ → CallString → AbstractState → FlowStep
jump_step flags terms m insn pc call_string state = goes terms m pc (list_of call_string) (does_val flags insn pc state.core []).core state.words

-- the step to the next instruction
abbrev pub next_step : Terms → Module → Insn → ℕ → CallString → AbstractState → FlowStep
next_step terms m insn pc call_string state = goes terms m pc (list_of call_string) (past_val insn pc state.core) state.words

-- the step past an instruction that names a module in R15
abbrev pub id_step : Terms → Module → Insn → ℕ → CallString → AbstractState → FlowStep
id_step terms m insn pc call_string state =
    goes terms m pc (list_of call_string) (put_val (past_val insn pc state.core) 15 Public) state.words

-- the condition of a jump
abbrev pub condition_of : Insn → Condition
condition_of (Jump condition offset) = condition
condition_of insn = Always

-- a jump
abbrev pub IsJump : Insn → Type 0
IsJump (Jump condition offset) = Unit {0}
IsJump insn = ⊥
