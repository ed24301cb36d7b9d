use Rattle.std.proofs.Common.{◌+◌, ◌≤◌, ◌^◌, drop}
use Rattle.script_file.specs.Bounds.{all_cycles}
use Rattle.monitor.proofs.Doing.{Playing}
use Rattle.monitor.proofs.playing.play.Given as goal

abbrev pub invariant-loop-line : goal.invariant-loop-line
invariant-loop-line g l = record {
  playing : Playing g.S.Sink.taken g.S.Sink.faults g.S.Sink.sure l.script.lines.items l.initial.board l.board l.initial.sink l.sink l.line-index;
  number : l.board.present.cycle + all_cycles (drop l.line-index l.script.lines.items) ≤ 2 ^ 62;
}
