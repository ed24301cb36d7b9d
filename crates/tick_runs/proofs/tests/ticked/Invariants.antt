use Rattle.std.proofs.Common.{◌≤◌}
use Rattle.tick_runs.proofs.tests.ticked.Given as goal

abbrev pub invariant-loop-number : goal.invariant-loop-number
invariant-loop-number l = l.board.present.cycle ≤ l.number
