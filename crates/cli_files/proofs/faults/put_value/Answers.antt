use Rattle.std.proofs.Common.{◌++◌, codes, ap, w64}
use Rattle.std.proofs.lemmas.Int.{to_z-of_z}
use Rattle.std.specs.Fmt.{signed_decimal}
use Rattle.sm_io.proofs.Putting.{cut_first, puts_last, puts_same}
use Rattle.cli_files.specs.Faults.{with_spot}
use Rattle.cli_files.proofs.faults.put_value.Goals as goal

pub returns-in-Err : goal.returns-in-Err
returns-in-Err g c = cut_first g.S.Sink.taken g.S.Sink.faults g.S.Sink.sure _ _ (with_spot (codes "OutOfRange") c.args.spot) (codes " " ++ signed_decimal c.args.value) c.in-Err.ensures

pub returns-in-Ok : goal.returns-in-Ok
returns-in-Ok g c = puts_last g.S.Sink.taken g.S.Sink.faults g.S.Sink.sure _ _ _ (with_spot (codes "OutOfRange") c.args.spot) (codes " " ++ signed_decimal c.args.value) _ c.in-Ok.ensures
    (puts_same g.S.Sink.taken g.S.Sink.faults g.S.Sink.sure _ _ _ _ _ (ap (λ z. codes " " ++ signed_decimal z) (to_z-of_z w64 c.args.value c.ranges.value)) c.put_signed.ensures)
