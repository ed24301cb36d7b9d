use Rattle.std.proofs.Common.{◌∙◌, ◌++◌, ap, subst}
use Rattle.flow_rule.specs.Iterations.{FlowStep}
use Rattle.flow_check.specs.internal.Violations.{noted}
use Rattle.flow_check.specs.internal.Points.{addrs_of, point_at, point_of, state_of}
use Rattle.flow_check.specs.internal.Programs.{base_flow}
use Rattle.flow_check.specs.internal.Steps.{Tells}
use Rattle.flow_check.proofs.Stubs.{blurred_step}
use Rattle.flow_check.proofs.stub.step_point.Goals as goal

pub returns : goal.returns
returns c =
    let p = c.args.program.now in
    let x = c.args.point.now in
    let step : FlowStep = base_flow p (point_at x) in
    let new = state_of c.step_base.new.core c.step_base.new.words in
    let told : Tells step c.new-stepped.result c.step_base.new.stepped new =
    subst (λ r. Tells (base_flow p (point_of x.addr r x.state)) c.new-stepped.result c.step_base.new.stepped new) c.new-stepped.ensures.call_string
    (subst (λ s. Tells s c.new-stepped.result c.step_base.new.stepped new) (blurred_step p (point_of x.addr c.new-stepped.result.call_string x.state) c.requires) c.step_base.ensures) in record {
      least = told.least ∙ ap (noted step.violations) c.new-stepped.ensures.least;
      targets = told.targets ∙ ap (λ t. t ++ addrs_of step.gives) c.new-stepped.ensures.targets;
      successors = told.successors;
    }
