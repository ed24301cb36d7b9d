use Rattle.std.proofs.Common.{◌≡◌, drop}
use Rattle.flow_rule.specs.Iterations.{join_all, given_points}
use Rattle.flow_check.specs.internal.Points.{points_of, fronts_of}
use Rattle.flow_check.specs.internal.Labellings.{KeptPoints}
use Rattle.flow_check.specs.internal.Programs.{flow}
use Rattle.flow_check.specs.internal.Summaries.{AreSummaries}
use Rattle.flow_check.proofs.worklist.iterate.Given as goal

abbrev pub invariant-loop-changed : goal.invariant-loop-changed
invariant-loop-changed l =
    (join_all (given_points (flow l.program) (fronts_of l.front)) (points_of l.fn.all) ≡ join_all (given_points (flow l.program) (fronts_of (drop l.changed-index l.front))) (points_of l.all))
    × KeptPoints (points_of l.fn.all) l.all
    × AreSummaries l.program l.summaries.list.items
