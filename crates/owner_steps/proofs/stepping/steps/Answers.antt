use Rattle.std.proofs.Common.{ap}
use Rattle.sm_io.proofs.Putting.{cut_first, cut_later, cut_same, took_same, took_then}
use Rattle.written_machine.specs.Cycle.{after_cycles}
use Rattle.written_machine.specs.Trace.{end_line_of}
use Rattle.owner_steps.specs.Steps.{owner_lines, run_with}
use Rattle.owner_steps.proofs.Putting.{stepped}
use Rattle.owner_steps.proofs.stepping.steps.Goals as goal

pub returns-in-Err : goal.returns-in-Err
returns-in-Err g c =
    let s = c.args.board.present in
    cut_first g.S.Sink.taken g.S.Sink.faults g.S.Sink.sure _ _ (run_with owner_lines s c.args.cycles) (end_line_of (after_cycles s c.args.cycles)) c.in-Err.ensures.lines

pub returns-in-Ok-finish : goal.returns-in-Ok-finish
returns-in-Ok-finish g c =
    let s = c.args.board.present in
    let n = c.args.cycles in
    stepped g.S.Sink.taken g.S.Sink.faults g.S.Sink.sure n s c.put_cycles.new.board.present _ _ _
    (took_then g.S.Sink.taken g.S.Sink.faults g.S.Sink.sure _ _ _ (run_with owner_lines s n) (end_line_of (after_cycles s n)) c.in-Ok.ensures.lines
    (took_same g.S.Sink.taken g.S.Sink.faults g.S.Sink.sure _ _ _ (end_line_of (after_cycles s n)) (ap end_line_of c.in-Ok.ensures.state) c.in-Ok-finish.ensures.line))
    c.in-Ok.ensures.state c.ended.ensures.ended

pub returns : goal.returns
returns g c =
    let s = c.args.board.present in
    let n = c.args.cycles in
    cut_later g.S.Sink.taken g.S.Sink.faults g.S.Sink.sure _ _ _ (run_with owner_lines s n) (end_line_of (after_cycles s n)) c.in-Ok.ensures.lines
    (cut_same g.S.Sink.taken g.S.Sink.faults g.S.Sink.sure _ _ _ (end_line_of (after_cycles s n)) (ap end_line_of c.in-Ok.ensures.state) c.in-Err-finish.ensures.line)
