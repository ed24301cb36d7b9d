use Rattle.std.proofs.Common.{◌≡◌, ◌≤◌, ◌+◌, ◌*◌, suc}
use Rattle.flow_check.specs.internal.Arms.{untold, tally_told}
use Rattle.flow_check.specs.internal.Points.{point_at}
use Rattle.flow_check.specs.internal.Programs.{arm_walk}
use Rattle.flow_check.proofs.arm.walk.Given as goal

abbrev pub invariant-loop-left : goal.invariant-loop-left
invariant-loop-left l = record {
  rest : tally_told (arm_walk l.program l.join (suc l.join) (point_at l.from)) (untold l.state)
      ≡ tally_told (arm_walk l.program l.join l.left (point_at l.point)) l.tally;
  short : l.tally.cycles + 6 * l.left ≤ 6 * (l.join + 1);
}

abbrev pub decreases-loop-left : goal.decreases-loop-left
decreases-loop-left l = l.left
