use Rattle.std.proofs.Common.{◌≡◌, ◌∙◌, ap, sym, subst, true}
use Rattle.flow_rule.specs.Iterations.{join_in}
use Rattle.flow_check.specs.internal.Points.{program_point, point_at, points_of}
use Rattle.flow_check.specs.internal.Labellings.{same_at}
use Rattle.flow_check.proofs.Labellings.{joins_rise}
use Rattle.flow_check.proofs.Placing.{first_there}
use Rattle.flow_check.proofs.labelling.Labelling.rise.Goals as goal

pub returns-clause-joined : goal.returns-clause-joined
returns-clause-joined c =
    let p = c.args.point.now in
    let ns = c.self.inside.nodes.items in
    let there = subst (λ ns. same_at (program_point p) ns c.args.at ≡ true) (sym c.self.view_is) c.requires in
    let first = first_there (program_point p) ns c.self.inside.places c.self.invariant.0 c.args.at there in
    joins_rise p ns c.args.at there first (points_of c.raise.new.nodes.items) c.raise.ensures.points ∙ ap (λ ns. join_in (point_at p) (points_of ns)) c.self.view_is
