use Rattle.std.proofs.Common.{◌++◌, codes}
use Rattle.sm_io.proofs.Putting.{cut_first, cut_later, puts_last}
use Rattle.cli_files.specs.Faults.{fault_text}
use Rattle.cli_files.proofs.lines.put_bad_file.Goals as goal

pub returns-in-Err : goal.returns-in-Err
returns-in-Err g c = cut_first g.S.Sink.taken g.S.Sink.faults g.S.Sink.sure _ _ (codes "bad file " ++ (c.args.name.now ++ codes ": ")) _ c.in-Err.ensures

pub returns-in-Err-put_fault : goal.returns-in-Err-put_fault
returns-in-Err-put_fault g c = cut_later g.S.Sink.taken g.S.Sink.faults g.S.Sink.sure _ _ _ (codes "bad file " ++ (c.args.name.now ++ codes ": ")) _ c.in-Ok.ensures (cut_first g.S.Sink.taken g.S.Sink.faults g.S.Sink.sure _ _ (fault_text c.args.fault) (codes "\n") c.in-Err-put_fault.ensures)

pub returns : goal.returns
returns g c = puts_last g.S.Sink.taken g.S.Sink.faults g.S.Sink.sure _ _ _ (codes "bad file " ++ (c.args.name.now ++ codes ": ")) _ _ c.in-Ok.ensures (puts_last g.S.Sink.taken g.S.Sink.faults g.S.Sink.sure _ _ _ (fault_text c.args.fault) (codes "\n") _ c.in-Ok-put_fault.ensures c.put_all.ensures.put)
