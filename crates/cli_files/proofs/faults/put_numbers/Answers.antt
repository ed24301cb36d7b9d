use Rattle.std.proofs.Common.{[]}
use Rattle.sm_io.proofs.Putting.{cut_first, puts_last}
use Rattle.cli_files.specs.Faults.{with_numbers}
use Rattle.cli_files.proofs.faults.put_numbers.Goals as goal

pub returns-in-Err : goal.returns-in-Err
returns-in-Err g c = cut_first g.S.Sink.taken g.S.Sink.faults g.S.Sink.sure _ _ c.args.name.now (with_numbers [] c.args.numbers.now) c.in-Err.ensures.put

pub returns-in-Ok : goal.returns-in-Ok
returns-in-Ok g c = puts_last g.S.Sink.taken g.S.Sink.faults g.S.Sink.sure _ _ _ c.args.name.now (with_numbers [] c.args.numbers.now) _ c.in-Ok.ensures.put c.put_list.ensures
