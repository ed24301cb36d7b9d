use Rattle.std.proofs.Common.{◌≡◌, ◌+◌, ◌-◌, ◌≤◌}
use Rattle.sm_io.specs.Sink.{Took}
use Rattle.written_machine.specs.Cycle.{after_cycles}
use Rattle.written_machine.specs.Marks.{at_state}
use Rattle.written_machine.specs.Trace.{lines_after}
use Rattle.board.specs.internal.Ran.{StandsNotAt}
use Rattle.board.proofs.board.Board.run_until.Given as goal

abbrev pub invariant-loop-left : goal.invariant-loop-left
invariant-loop-left g l = record {
  within : l.left ≤ l.most;
  state : l.self.present ≡ after_cycles l.initial.self.present (l.most - l.left);
  lines : Took g.S.Sink.taken g.S.Sink.faults g.S.Sink.sure l.initial.sink l.sink (lines_after l.initial.self.present (l.most - l.left));
  apart : StandsNotAt l.addr (l.most - l.left) l.initial.self.present;
  number : l.self.present.cycle ≤ l.initial.self.present.cycle + (l.most - l.left);
  marks : l.self ≡ at_state l.initial.self l.self.present;
}

abbrev pub decreases-loop-left : goal.decreases-loop-left
decreases-loop-left g l = l.left
