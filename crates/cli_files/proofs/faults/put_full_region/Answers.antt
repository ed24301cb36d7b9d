use Rattle.std.proofs.Common.{[], codes}
use Rattle.sm_io.proofs.Putting.{cut_first, cut_later, puts_last}
use Rattle.cli_files.specs.Faults.{with_numbers}
use Rattle.cli_files.specs.LinkFaults.{region_text}
use Rattle.cli_files.proofs.faults.put_full_region.Goals as goal

pub returns-in-Err : goal.returns-in-Err
returns-in-Err g c = cut_first g.S.Sink.taken g.S.Sink.faults g.S.Sink.sure _ _ (codes "Region ") _ c.in-Err.ensures.put

pub returns-in-Err-put_region : goal.returns-in-Err-put_region
returns-in-Err-put_region g c = cut_later g.S.Sink.taken g.S.Sink.faults g.S.Sink.sure _ _ _ (codes "Region ") _ c.in-Ok.ensures.put
    (cut_first g.S.Sink.taken g.S.Sink.faults g.S.Sink.sure _ _ (region_text c.args.region) (with_numbers [] c.args.numbers.now) c.in-Err-put_region.ensures)

pub returns-in-Ok-put_region : goal.returns-in-Ok-put_region
returns-in-Ok-put_region g c = puts_last g.S.Sink.taken g.S.Sink.faults g.S.Sink.sure _ _ _ (codes "Region ") _ _ c.in-Ok.ensures.put
    (puts_last g.S.Sink.taken g.S.Sink.faults g.S.Sink.sure _ _ _ (region_text c.args.region) (with_numbers [] c.args.numbers.now) _ c.in-Ok-put_region.ensures c.put_list.ensures)
