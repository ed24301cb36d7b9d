use Rattle.std.proofs.Common.{◌++◌, codes}
use Rattle.sm_io.proofs.Putting.{cut_first, cut_later, puts_last}
use Rattle.cli_files.specs.Faults.{with_numbers}
use Rattle.cli_files.specs.LinkFaults.{reloc_fault_text}
use Rattle.cli_files.proofs.faults.put_refused_field.Goals as goal

pub returns-in-Err : goal.returns-in-Err
returns-in-Err g c = cut_first g.S.Sink.taken g.S.Sink.faults g.S.Sink.sure _ _ (with_numbers (codes "Reloc") c.args.numbers.now) (codes " " ++ reloc_fault_text c.args.fault) c.in-Err.ensures

pub returns-in-Err-put_all : goal.returns-in-Err-put_all
returns-in-Err-put_all g c = cut_later g.S.Sink.taken g.S.Sink.faults g.S.Sink.sure _ _ _ (with_numbers (codes "Reloc") c.args.numbers.now) _ c.in-Ok.ensures
    (cut_first g.S.Sink.taken g.S.Sink.faults g.S.Sink.sure _ _ (codes " ") (reloc_fault_text c.args.fault) c.in-Err-put_all.ensures.put)

pub returns-in-Ok-put_all : goal.returns-in-Ok-put_all
returns-in-Ok-put_all g c = puts_last g.S.Sink.taken g.S.Sink.faults g.S.Sink.sure _ _ _ (with_numbers (codes "Reloc") c.args.numbers.now) _ _ c.in-Ok.ensures
    (puts_last g.S.Sink.taken g.S.Sink.faults g.S.Sink.sure _ _ _ (codes " ") (reloc_fault_text c.args.fault) _ c.in-Ok-put_all.ensures.put c.put_reloc_fault.ensures)
