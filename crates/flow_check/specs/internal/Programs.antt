-- The rule of flow over a program.
use Rattle.flow_check.specs.declared.program.Flags.{Flags}
use Rattle.flow_check.specs.declared.program.Flags.TheVariants.{Blurred, Followed}
use Rattle.std.specs.Prelude.{ℕ}
use Rattle.flow_rule.specs.Values.{FlagDomain, blurred_flags, known_flags}
use Rattle.flow_rule.specs.Iterations.{PointState, FlowStep}
use Rattle.flow_rule.specs.Verdict.{flow_step}
use Rattle.flow_rule.specs.Arms.{Walk, walk, first_walk, second_walk, flow_under, step_arm}
use Rattle.flow_check.specs.declared.program.Program.{Program}
use Rattle.flow_check.specs.declared.branch.BranchSite.{BranchSite}
use Rattle.flow_check.specs.internal.Terms.{terms_in}

-- what a program's flags are to the rule
abbrev pub domain_of : Flags → FlagDomain
domain_of Blurred = blurred_flags
domain_of Followed = known_flags

-- the step of a point but for branches with a certificate, as its flags are kept
abbrev pub step_by : Program → PointState → FlowStep
step_by p = flow_step (domain_of p.flags) (terms_in p) p.module.now p.text.now

-- the same with these branches
abbrev pub flow_by : Program → PointState → FlowStep
flow_by p = flow_under (domain_of p.flags) (terms_in p) p.module.now p.text.now p.arms.now

-- the step of a point
abbrev pub flow : Program → PointState → FlowStep
flow p = flow_under blurred_flags (terms_in p) p.module.now p.text.now p.arms.now

-- the same but for branches with a certificate
abbrev pub base_flow : Program → PointState → FlowStep
base_flow p = flow_step blurred_flags (terms_in p) p.module.now p.text.now

-- the step of a branch by its certificate
abbrev pub flow_at : Program → BranchSite → PointState → FlowStep
flow_at p c x = step_arm (base_flow p) p.module.now p.text.now c.insn c.target c.arm x

-- the walk from a point to the join, in so many steps
abbrev pub arm_walk : Program → ℕ → ℕ → PointState → Walk
arm_walk p join steps = walk (base_flow p) p.module.now p.text.now join steps

-- along the arm of a branch that the jump does not take, and along the one that it takes
abbrev pub untaken_walk : Program → BranchSite → PointState → Walk
untaken_walk p c = first_walk (base_flow p) p.module.now p.text.now c.insn c.arm

abbrev pub taken_walk : Program → BranchSite → PointState → Walk
taken_walk p c = second_walk (base_flow p) p.module.now p.text.now c.insn c.target c.arm
