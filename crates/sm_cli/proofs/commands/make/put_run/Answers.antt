use Rattle.std.proofs.Common.{◌+◌, codes, ap}
use Rattle.sm_io.proofs.Putting.{cut_first, puts_last, puts_same, took_same, cut_same}
use Rattle.written_machine.specs.Cycle.{after_cycles}
use Rattle.written_machine.specs.Trace.{end_line_of}
use Rattle.sm_cli.specs.MakeCommand.{events_after, run_text}
use Rattle.sm_cli.specs.Numbers.{number_line}
use Rattle.sm_cli.proofs.commands.make.put_run.Goals as goal

pub returns : goal.returns
unfolding run_text
returns g c =
    let s = c.args.board.present in
    let n = c.args.cycles in
    let lines = number_line (codes "lines ") (events_after s n + 1) in
    let same = ap (λ k. number_line (codes "lines ") (k + 1)) c.count_events-lines.ensures.count in
    cut_first g.O.Sink.taken g.O.Sink.faults g.O.Sink.sure _ _ lines (end_line_of (after_cycles s n)) (cut_same g.O.Sink.taken g.O.Sink.faults g.O.Sink.sure _ _ _ lines same c.in-Err.ensures)

pub returns-in-Ok : goal.returns-in-Ok
unfolding run_text
returns-in-Ok g c =
    let s = c.args.board.present in
    let n = c.args.cycles in
    let lines = number_line (codes "lines ") (events_after s n + 1) in
    let same = ap (λ k. number_line (codes "lines ") (k + 1)) c.count_events-lines.ensures.count in
    puts_last g.O.Sink.taken g.O.Sink.faults g.O.Sink.sure _ _ _ lines (end_line_of (after_cycles s n)) _ (took_same g.O.Sink.taken g.O.Sink.faults g.O.Sink.sure _ _ _ lines same c.in-Ok.ensures)
    (puts_same g.O.Sink.taken g.O.Sink.faults g.O.Sink.sure _ _ _ _ _ (ap end_line_of c.count_events-lines.ensures.state) c.finish.ensures.line)
