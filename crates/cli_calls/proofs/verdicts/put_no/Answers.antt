use Rattle.std.proofs.Common.{◌++◌, codes}
use Rattle.texts.specs.Hexadecimals.{hex_word}
use Rattle.sm_io.proofs.Putting.{cut_first, cut_later, puts_last}
use Rattle.cli_calls.specs.Verdicts.{reason_name}
use Rattle.cli_calls.proofs.verdicts.put_no.Goals as goal

pub returns-in-Err : goal.returns-in-Err
returns-in-Err g c = cut_first g.O.Sink.taken g.O.Sink.faults g.O.Sink.sure _ _ (codes "no " ++ (hex_word c.args.addr ++ codes " ")) _ c.in-Err.ensures

pub returns-in-Err-put_reason : goal.returns-in-Err-put_reason
returns-in-Err-put_reason g c = cut_later g.O.Sink.taken g.O.Sink.faults g.O.Sink.sure _ _ _ (codes "no " ++ (hex_word c.args.addr ++ codes " ")) _ c.in-Ok.ensures (cut_first g.O.Sink.taken g.O.Sink.faults g.O.Sink.sure _ _ (reason_name c.args.reason) (codes " " ++ (hex_word c.args.value ++ codes "\n")) c.in-Err-put_reason.ensures)

pub returns : goal.returns
returns g c = puts_last g.O.Sink.taken g.O.Sink.faults g.O.Sink.sure _ _ _ (codes "no " ++ (hex_word c.args.addr ++ codes " ")) _ _ c.in-Ok.ensures (puts_last g.O.Sink.taken g.O.Sink.faults g.O.Sink.sure _ _ _ (reason_name c.args.reason) (codes " " ++ (hex_word c.args.value ++ codes "\n")) _ c.in-Ok-put_reason.ensures c.put_word-2.ensures)
