use Rattle.std.proofs.Common.{◌≤◌}
use Rattle.sm_cli.proofs.Counting.{IsCounted}
use Rattle.sm_cli.proofs.commands.make.count_events.Given as goal

abbrev pub invariant-loop : goal.invariant-loop
invariant-loop l = IsCounted l.initial.board.present l.board.present l.count l.counter × (l.counter ≤ l.cycles)
