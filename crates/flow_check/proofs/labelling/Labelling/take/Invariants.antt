use Rattle.std.proofs.Common.{◌≡◌, drop}
use Rattle.flow_rule.specs.Iterations.{join_all}
use Rattle.flow_check.specs.internal.Points.{list_of, points_at, points_of}
use Rattle.flow_check.specs.internal.Labellings.{StillKept}
use Rattle.flow_check.proofs.labelling.Labelling.take.Given as goal

abbrev pub invariant-loop-to : goal.invariant-loop-to
invariant-loop-to l =
    (join_all (points_at l.targets (list_of l.call_string) l.fn.state) (points_of l.fn.self)
    ≡ join_all (points_at (drop l.to-index l.targets) (list_of l.call_string) l.state) (points_of l.self))
    × StillKept l.fn.self l.self
