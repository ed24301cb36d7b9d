use Rattle.std.proofs.Common.{is_some, ap, sym, ◌∙◌}
use Rattle.written_machine.specs.Cycle.{after_cycles}
use Rattle.written_machine.specs.State.{State}
use Rattle.written_machine.specs.Trace.{lines_after, end_line_of}
use Rattle.board.specs.Ran.{RanWhole}
use Rattle.sm_io.proofs.Putting.{cut_first, cut_later, cut_same, took_same, took_then}
use Rattle.cli_calls.specs.Command.{run_status}
use Rattle.sm_cli.proofs.commands.image.TraceRunText.put.Goals as goal
use Rattle.sm_cli.proofs.commands.image.TraceRunText.put.Goals.{in-Done, in-Stopped}

pub returns-in-SinkFailed : goal.returns-in-SinkFailed
returns-in-SinkFailed g c = cut_first g.O.Sink.taken g.O.Sink.faults g.O.Sink.sure _ _ (lines_after c.args.board.present c.args.cycles) (end_line_of (after_cycles c.args.board.present c.args.cycles)) c.in-SinkFailed.ensures.ran.cut

pub returns-in-Ok : goal.returns-in-Ok
returns-in-Ok g c =
    let took = λ (whole : RanWhole g.O.Sink.taken g.O.Sink.faults g.O.Sink.sure c.args.cycles c.args.board.present c.run.new.self.present c.args.out.now c.run.new.sink).
    took_then g.O.Sink.taken g.O.Sink.faults g.O.Sink.sure c.args.out.now c.run.new.sink c.finish.new.sink (lines_after c.args.board.present c.args.cycles) (end_line_of (after_cycles c.args.board.present c.args.cycles)) whole.lines
    (took_same g.O.Sink.taken g.O.Sink.faults g.O.Sink.sure _ _ (end_line_of c.run.new.self.present) _ (ap end_line_of whole.state) c.in-Ok.ensures.line) in
    elim c.match-run.branch [
      | in-Done w ↦ rw w.status-is (took w.in-Done.ensures.ran.0, ap (λ (s : State). run_status (is_some s.stop)) (sym w.in-Done.ensures.ran.0.state) ∙ ap (λ stop. run_status (is_some stop)) w.in-Done.ensures.ran.1)
      | in-Stopped w ↦ rw w.status-is (took w.in-Stopped.ensures.ran.0, ap (λ (s : State). run_status (is_some s.stop)) (sym w.in-Stopped.ensures.ran.0.state) ∙ ap (λ stop. run_status (is_some stop)) w.in-Stopped.ensures.ran.1)
    ]

pub returns : goal.returns
returns g c =
    let cut = λ (whole : RanWhole g.O.Sink.taken g.O.Sink.faults g.O.Sink.sure c.args.cycles c.args.board.present c.run.new.self.present c.args.out.now c.run.new.sink).
    cut_later g.O.Sink.taken g.O.Sink.faults g.O.Sink.sure c.args.out.now c.run.new.sink c.finish.new.sink (lines_after c.args.board.present c.args.cycles) (end_line_of (after_cycles c.args.board.present c.args.cycles)) whole.lines
    (cut_same g.O.Sink.taken g.O.Sink.faults g.O.Sink.sure _ _ (end_line_of c.run.new.self.present) _ (ap end_line_of whole.state) c.in-Err.ensures.line) in
    elim c.match-run.branch [ in-Done w ↦ cut w.in-Done.ensures.ran.0 | in-Stopped w ↦ cut w.in-Stopped.ensures.ran.0 ]
