use Rattle.std.proofs.Common.{refl}
use Rattle.insn_decode.specs.Code.{insn_of}
use Rattle.arm_balance.specs.Met.{met}
use Rattle.flow_rule.specs.Does.{plan_val, does_val}
use Rattle.flow_rule.specs.Stub.{has_stub}
use Rattle.flow_rule.specs.Arms.{step_arms}
use Rattle.flow_laws.proofs.counted_loop.Goals as goal

pub returns : goal.returns
unfolding met has_stub plan_val does_val insn_of step_arms
returns c = record { complete = refl }
