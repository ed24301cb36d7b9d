use Rattle.sm_io.proofs.Putting.{cut_first, cut_later, puts_last}
use Rattle.cli_files.proofs.lines.put_named.Goals as goal

pub returns-in-Err : goal.returns-in-Err
returns-in-Err g c = cut_first g.S.Sink.taken g.S.Sink.faults g.S.Sink.sure _ _ c.args.before.now _ c.in-Err.ensures.put

pub returns-in-Err-put_all : goal.returns-in-Err-put_all
returns-in-Err-put_all g c = cut_later g.S.Sink.taken g.S.Sink.faults g.S.Sink.sure _ _ _ c.args.before.now _ c.in-Ok.ensures.put (cut_first g.S.Sink.taken g.S.Sink.faults g.S.Sink.sure _ _ c.args.name.now _ c.in-Err-put_all.ensures.put)

pub returns : goal.returns
returns g c = puts_last g.S.Sink.taken g.S.Sink.faults g.S.Sink.sure _ _ _ c.args.before.now _ _ c.in-Ok.ensures.put (puts_last g.S.Sink.taken g.S.Sink.faults g.S.Sink.sure _ _ _ c.args.name.now c.args.after.now _ c.in-Ok-put_all.ensures.put c.put_all-3.ensures.put)
