-- States that know less than others, and branches whose arms are walked once for all of them.
use Rattle.std.specs.Prelude.{◌≡◌, ℕ, ◌%◌, List, []}
use Rattle.insn_decode.specs.declared.insn.Insn.{Insn}
use Rattle.mod_layout.specs.declared.Module.{Module}
use Rattle.arm_balance.specs.declared.Arm.{Arm}
use Rattle.flow_rule.specs.Terms.{Terms}
use Rattle.flow_rule.specs.declared.AbstractState.{AbstractState}
use Rattle.flow_rule.specs.Values.{join_each, blurred_flags}
use Rattle.flow_rule.specs.Iterations.{PointState}
use Rattle.flow_rule.specs.Verdict.{flow_step}
use Rattle.flow_rule.specs.Arms.{first_walk, second_walk, step_arm}

-- a state that absorbs another: joining it changes nothing
pub record Absorbs (top low : AbstractState) : Type 0 where
  pub core : join_each top.core low.core ≡ top.core
  pub words : join_each top.words low.words ≡ top.words

-- where a branch has no violation under a state, its arms tell the same under each state that this one absorbs
abbrev pub ArmsRest : Type 0
ArmsRest = (terms : Terms) (m : Module) (text : List ℕ) (insn : Insn) (target : ℕ) (arm : Arm) (top x : PointState) → m.text.start % 2 ≡ 0 →
    x.point.addr ≡ top.point.addr → Absorbs top.state x.state →
    let step = flow_step blurred_flags terms m text in
    (step_arm step m text insn target arm top).violations ≡ [] →
    (first_walk step m text insn arm x ≡ first_walk step m text insn arm top)
    × (second_walk step m text insn target arm x ≡ second_walk step m text insn target arm top)
