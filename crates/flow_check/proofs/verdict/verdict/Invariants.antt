use Rattle.std.proofs.Common.{◌≤◌, ◌+◌, ◌-◌, ◌*◌, length, []}
use Rattle.flow_check.specs.internal.Points.{points_of}
use Rattle.flow_check.specs.internal.Labellings.{Reached}
use Rattle.flow_check.specs.internal.Programs.{flow}
use Rattle.flow_check.specs.internal.Summaries.{AreSummaries}
use Rattle.flow_check.specs.internal.Weights.{weight_of, has_mark}
use Rattle.flow_check.proofs.verdict.verdict.Given as goal

abbrev pub invariant-loop-front : goal.invariant-loop-front
invariant-loop-front l =
    (length l.all ≤ 16384) × Reached (flow l.program) record { point = record { addr = l.start; call_string = [] }; state = l.first } l.all × AreSummaries l.program l.summaries.list.items

abbrev pub decreases-loop-front : goal.decreases-loop-front
decreases-loop-front l = 2 * (8929280 - weight_of (points_of l.all)) + has_mark l.all
