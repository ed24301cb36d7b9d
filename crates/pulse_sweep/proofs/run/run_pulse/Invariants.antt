use Rattle.std.proofs.Common.{◌≡◌, ◌≤◌}
use Rattle.written_machine.specs.Cycle.{after_cycles}
use Rattle.written_machine.specs.Trace.{lines_after}
use Rattle.written_machine.specs.View.{boot}
use Rattle.pulse_sweep.specs.Columns.{columns_after}
use Rattle.pulse_sweep.specs.Sweep.{lone_pulse}
use Rattle.pulse_sweep.proofs.run.run_pulse.Given as goal

abbrev pub invariant-loop-i : goal.invariant-loop-i
invariant-loop-i l = let s = boot l.image (lone_pulse l.pulses.line l.pulse) in record {
  state : l.board.present ≡ after_cycles s l.i;
  number : l.board.present.cycle ≤ l.i;
  columns : l.run.columns ≡ columns_after l.pulse s l.i;
  trace : l.run.trace.items ≡ lines_after s l.i;
}
