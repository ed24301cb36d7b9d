use Rattle.std.proofs.Common.{◌≡◌, ◌+◌, ◌-◌, ◌≤◌}
use Rattle.sm_io.specs.Sink.{Took}
use Rattle.written_machine.specs.Cycle.{after_cycles}
use Rattle.owner_steps.specs.Steps.{owner_lines, run_with}
use Rattle.owner_steps.proofs.stepping.put_cycles.Given as goal

abbrev pub invariant-loop-left : goal.invariant-loop-left
invariant-loop-left g l = record {
  within : l.left ≤ l.cycles;
  state : l.board.present ≡ after_cycles l.initial.board.present (l.cycles - l.left);
  lines : Took g.S.Sink.taken g.S.Sink.faults g.S.Sink.sure l.initial.sink l.sink (run_with owner_lines l.initial.board.present (l.cycles - l.left));
  number : l.board.present.cycle ≤ l.initial.board.present.cycle + (l.cycles - l.left);
}

abbrev pub decreases-loop-left : goal.decreases-loop-left
decreases-loop-left g l = l.left
