use Rattle.std.proofs.Common.{codes}
use Rattle.sm_io.proofs.Putting.{cut_first, cut_later, puts_last}
use Rattle.vendor_tool.proofs.reporting.put_line.Goals as goal

pub returns-in-Err : goal.returns-in-Err
returns-in-Err g c = cut_first g.S.Sink.taken g.S.Sink.faults g.S.Sink.sure _ _ c.args.number.now _ c.in-Err.ensures.put

pub returns-in-Err-put_all : goal.returns-in-Err-put_all
returns-in-Err-put_all g c =
    cut_later g.S.Sink.taken g.S.Sink.faults g.S.Sink.sure _ _ _ c.args.number.now _ c.in-Ok.ensures.put
    (cut_first g.S.Sink.taken g.S.Sink.faults g.S.Sink.sure _ _ (codes " ") _ c.in-Err-put_all.ensures.put)

pub returns-in-Err-put_all-2 : goal.returns-in-Err-put_all-2
returns-in-Err-put_all-2 g c =
    cut_later g.S.Sink.taken g.S.Sink.faults g.S.Sink.sure _ _ _ c.args.number.now _ c.in-Ok.ensures.put
    (cut_later g.S.Sink.taken g.S.Sink.faults g.S.Sink.sure _ _ _ (codes " ") _ c.in-Ok-put_all.ensures.put
    (cut_first g.S.Sink.taken g.S.Sink.faults g.S.Sink.sure _ _ c.args.name.now _ c.in-Err-put_all-2.ensures.put))

pub returns : goal.returns
returns g c =
    puts_last g.S.Sink.taken g.S.Sink.faults g.S.Sink.sure _ _ _ c.args.number.now _ _ c.in-Ok.ensures.put
    (puts_last g.S.Sink.taken g.S.Sink.faults g.S.Sink.sure _ _ _ (codes " ") _ _ c.in-Ok-put_all.ensures.put
    (puts_last g.S.Sink.taken g.S.Sink.faults g.S.Sink.sure _ _ _ c.args.name.now (codes "\n") _ c.in-Ok-put_all-2.ensures.put c.put_all-4.ensures.put))
