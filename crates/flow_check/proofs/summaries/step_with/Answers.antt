use Rattle.std.proofs.Common.{◌∙◌, ◌++◌, ◌∷◌, [], ap, sym, subst, refl}
use Rattle.flow_rule.specs.Iterations.{PointState, given_by}
use Rattle.flow_check.specs.internal.Points.{addrs_of, point_at}
use Rattle.flow_check.specs.internal.Programs.{flow, base_flow, flow_at}
use Rattle.flow_check.specs.internal.Steps.{SuccessorsAlike}
use Rattle.flow_check.proofs.Successors.{none_found, some_found}
use Rattle.flow_check.proofs.Walking.{by_site, by_none}
use Rattle.flow_check.proofs.Subsuming.{site_successors, stirred}
use Rattle.flow_check.proofs.summaries.step_with.Goals as goal

pub returns-in-Open-clause-calm : goal.returns-in-Open-clause-calm
returns-in-Open-clause-calm c = λ _.
    let x : PointState = point_at c.args.point.now in
    ap (λ s. s.violations) (by_site c.args.program.now x c.site_of.result c.in-Some.site c.site_of.ensures c.in-Some.is) ∙ (c.in_ok-apply-in-Some.ensures.open c.in-Open.is x.point.call_string).0

pub returns-in-Open-clause-targets : goal.returns-in-Open-clause-targets
returns-in-Open-clause-targets c = λ _.
    let site = by_site c.args.program.now (point_at c.args.point.now) c.site_of.result c.in-Some.site c.site_of.ensures c.in-Some.is in
    c.push.ensures.items ∙ ap (λ t. t ++ c.in-Some.site.arm.join ∷ []) c.new-stepped.ensures.targets ∙ ap (λ s. addrs_of s.gives) (sym site)

pub returns-in-Open-clause-successors : goal.returns-in-Open-clause-successors
returns-in-Open-clause-successors c = λ _.
    let p = c.args.program.now in
    let x : PointState = point_at c.args.point.now in
    let site = by_site p x c.site_of.result c.in-Some.site c.site_of.ensures c.in-Some.is in
    subst (λ r. SuccessorsAlike (flow p x) r c.apply.new.state) (sym c.new-stepped.ensures.call_string)
    (λ _. site_successors p c.in-Some.site x (flow p x) c.apply.new.state site (c.in_ok-apply-in-Some.ensures.open c.in-Open.is x.point.call_string).1)

pub returns-in-Shut-clause-stirred : goal.returns-in-Shut-clause-stirred
returns-in-Shut-clause-stirred c = λ _ _.
    let p = c.args.program.now in
    let x : PointState = point_at c.args.point.now in
    stirred (flow p x) (flow_at p c.in-Some.site x) (by_site p x c.site_of.result c.in-Some.site c.site_of.ensures c.in-Some.is) (c.in_ok-apply-in-Some.ensures.shut c.in-Shut.is x.point.call_string)

pub returns-in-None-clause-calm : goal.returns-in-None-clause-calm
returns-in-None-clause-calm c = λ none.
    let x : PointState = point_at c.args.point.now in
    ap (λ s. s.violations) (by_none c.args.program.now x c.site_of.result c.site_of.ensures c.in-None.is) ∙ none_found (base_flow c.args.program.now x).violations (sym c.step_point.ensures.least ∙ none)

pub returns-in-None-clause-stirred : goal.returns-in-None-clause-stirred
returns-in-None-clause-stirred c = λ violation some.
    let step = base_flow c.args.program.now (point_at c.args.point.now) in
    ap given_by (by_none c.args.program.now (point_at c.args.point.now) c.site_of.result c.site_of.ensures c.in-None.is) ∙ some_found step.violations violation (sym c.step_point.ensures.least ∙ some) step refl

pub returns-in-None-clause-targets : goal.returns-in-None-clause-targets
returns-in-None-clause-targets c = λ _.
    c.step_point.ensures.targets ∙ ap (λ s. addrs_of s.gives) (sym (by_none c.args.program.now (point_at c.args.point.now) c.site_of.result c.site_of.ensures c.in-None.is))

pub returns-in-None-clause-successors : goal.returns-in-None-clause-successors
returns-in-None-clause-successors c = λ _.
    subst (λ s. SuccessorsAlike s c.step_point.result.call_string c.step_point.new.point.state) (sym (by_none c.args.program.now (point_at c.args.point.now) c.site_of.result c.site_of.ensures c.in-None.is)) c.step_point.ensures.successors
