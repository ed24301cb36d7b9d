use Rattle.std.proofs.Common.{codes}
use Rattle.sm_io.proofs.Putting.{cut_first, cut_later, puts_last}
use Rattle.cli_files.specs.LinkFaults.{link_fault_text}
use Rattle.cli_files.specs.Refusal.{link_end}
use Rattle.cli_files.proofs.lines.put_link_refusal.Goals as goal

pub returns-in-Err : goal.returns-in-Err
returns-in-Err g c = cut_first g.S.Sink.taken g.S.Sink.faults g.S.Sink.sure _ _ (codes "link ") _ c.in-Err.ensures.put

pub returns-in-Err-put_link_fault : goal.returns-in-Err-put_link_fault
returns-in-Err-put_link_fault g c = cut_later g.S.Sink.taken g.S.Sink.faults g.S.Sink.sure _ _ _ (codes "link ") _ c.in-Ok.ensures.put
    (cut_first g.S.Sink.taken g.S.Sink.faults g.S.Sink.sure _ _ (link_fault_text c.args.fault) (link_end c.args.fault c.args.name.now) c.in-Err-put_link_fault.ensures)

pub returns-in-Ok-put_link_fault : goal.returns-in-Ok-put_link_fault
returns-in-Ok-put_link_fault g c = puts_last g.S.Sink.taken g.S.Sink.faults g.S.Sink.sure _ _ _ (codes "link ") _ _ c.in-Ok.ensures.put
    (puts_last g.S.Sink.taken g.S.Sink.faults g.S.Sink.sure _ _ _ (link_fault_text c.args.fault) (link_end c.args.fault c.args.name.now) _ c.in-Ok-put_link_fault.ensures c.put_symbol.ensures)
