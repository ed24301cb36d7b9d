use Rattle.std.proofs.Common.{◌++◌, codes, ap}
use Rattle.sm_io.proofs.Putting.{cut_first, cut_later, puts_last, took_same, cut_same}
use Rattle.sm_cli.specs.MakeCommand.{run_text}
use Rattle.sm_cli.specs.Numbers.{number_line}
use Rattle.sm_cli.proofs.commands.make.put_runs.Goals as goal

pub returns-in-Err : goal.returns-in-Err
returns-in-Err g c =
    let seed = number_line (codes "seed ") c.args.seed in
    let same = ap (number_line (codes "seed ")) c.from.ensures in
    let first = run_text c.args.boards.first.present c.args.cycles in
    let second = run_text c.args.boards.second.present c.args.cycles in
    cut_first g.O.Sink.taken g.O.Sink.faults g.O.Sink.sure _ _ seed (first ++ second) (cut_same g.O.Sink.taken g.O.Sink.faults g.O.Sink.sure _ _ _ seed same c.in-Err.ensures)

pub returns-in-Err-put_run : goal.returns-in-Err-put_run
returns-in-Err-put_run g c =
    let seed = number_line (codes "seed ") c.args.seed in
    let same = ap (number_line (codes "seed ")) c.from.ensures in
    let first = run_text c.args.boards.first.present c.args.cycles in
    let second = run_text c.args.boards.second.present c.args.cycles in
    cut_later g.O.Sink.taken g.O.Sink.faults g.O.Sink.sure _ _ _ seed (first ++ second) (took_same g.O.Sink.taken g.O.Sink.faults g.O.Sink.sure _ _ _ seed same c.in-Ok.ensures) (cut_first g.O.Sink.taken g.O.Sink.faults g.O.Sink.sure _ _ first second c.in-Err-put_run.ensures)

pub returns-in-Ok-put_run : goal.returns-in-Ok-put_run
returns-in-Ok-put_run g c =
    let seed = number_line (codes "seed ") c.args.seed in
    let same = ap (number_line (codes "seed ")) c.from.ensures in
    let first = run_text c.args.boards.first.present c.args.cycles in
    let second = run_text c.args.boards.second.present c.args.cycles in
    puts_last g.O.Sink.taken g.O.Sink.faults g.O.Sink.sure _ _ _ seed (first ++ second) _ (took_same g.O.Sink.taken g.O.Sink.faults g.O.Sink.sure _ _ _ seed same c.in-Ok.ensures)
    (puts_last g.O.Sink.taken g.O.Sink.faults g.O.Sink.sure _ _ _ first second _ c.in-Ok-put_run.ensures c.put_run-in-Ok-put_run.ensures)
