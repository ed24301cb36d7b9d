use Rattle.std.proofs.Common.{◌≡◌, drop, None}
use Rattle.flow_rule.specs.Iterations.{all_violations}
use Rattle.flow_check.specs.internal.Points.{points_of}
use Rattle.flow_check.specs.internal.Programs.{flow}
use Rattle.flow_check.specs.internal.Violations.{noted}
use Rattle.flow_check.proofs.verdict.least_of.Given as goal

abbrev pub invariant-loop-i : goal.invariant-loop-i
invariant-loop-i l =
    noted (all_violations (flow l.program) (points_of l.all)) None ≡ noted (all_violations (flow l.program) (points_of (drop l.i l.all))) l.least
