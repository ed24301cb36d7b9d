use Rattle.std.proofs.Common.{◌++◌, codes}
use Rattle.std.specs.Fmt.{decimal}
use Rattle.sm_io.proofs.Putting.{cut_first, cut_later, puts_last}
use Rattle.cli_files.specs.Faults.{table_fault_text}
use Rattle.cli_files.proofs.lines.put_refused_module.Goals as goal

pub returns-in-Err : goal.returns-in-Err
returns-in-Err g c = cut_first g.S.Sink.taken g.S.Sink.faults g.S.Sink.sure _ _ (codes "Table " ++ decimal c.args.id) _ c.in-Err.ensures

pub returns-in-Err-put_all : goal.returns-in-Err-put_all
returns-in-Err-put_all g c = cut_later g.S.Sink.taken g.S.Sink.faults g.S.Sink.sure _ _ _ (codes "Table " ++ decimal c.args.id) _ c.in-Ok.ensures (cut_first g.S.Sink.taken g.S.Sink.faults g.S.Sink.sure _ _ (codes " ") (table_fault_text c.args.fault) c.in-Err-put_all.ensures.put)

pub returns : goal.returns
returns g c = puts_last g.S.Sink.taken g.S.Sink.faults g.S.Sink.sure _ _ _ (codes "Table " ++ decimal c.args.id) _ _ c.in-Ok.ensures (puts_last g.S.Sink.taken g.S.Sink.faults g.S.Sink.sure _ _ _ (codes " ") (table_fault_text c.args.fault) _ c.in-Ok-put_all.ensures.put c.put_table_fault.ensures)
