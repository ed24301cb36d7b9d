use Rattle.std.proofs.Common.{◌∙◌, ap, sym}
use Rattle.flow_check.specs.internal.Points.{point_at, point_of}
use Rattle.flow_check.specs.internal.Programs.{base_flow}
use Rattle.flow_check.specs.internal.Violations.{noted}
use Rattle.flow_check.proofs.Stubs.{blurred_step}
use Rattle.flow_check.proofs.Walking.{by_site, by_none}
use Rattle.flow_check.proofs.summaries.violation_with.Goals as goal

pub returns-in-Some : goal.returns-in-Some
returns-in-Some c =
    let site = by_site c.args.program.now (point_at c.args.point.now) c.site_of.result c.in-Some.site c.site_of.ensures c.in-Some.is in
    c.violation_of_arms.ensures ∙ ap (λ s. noted s.violations c.args.least) (sym site)

pub returns-in-None : goal.returns-in-None
returns-in-None c =
    let p = c.args.program.now in
    let point = c.args.point.now in
    let none = by_none p (point_at point) c.site_of.result c.site_of.ensures c.in-None.is in
    c.step_base.ensures.least ∙ ap (λ s. noted s.violations c.args.least) (blurred_step p (point_of point.addr c.new-stepped.result.call_string point.state) c.requires.blurred) ∙ ap (λ r. noted (base_flow p (point_of point.addr r point.state)).violations c.args.least) c.new-stepped.ensures.call_string
    ∙ ap (λ s. noted s.violations c.args.least) (sym none)
