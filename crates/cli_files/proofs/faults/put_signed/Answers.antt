use Rattle.std.proofs.Common.{ap, ◌∙◌, w64}
use Rattle.std.proofs.lemmas.Int.{to_z-of_z}
use Rattle.std.specs.Fmt.{signed_decimal}
use Rattle.sm_io.proofs.Putting.{cut_first, puts_last, puts_same}
use Rattle.cli_files.proofs.faults.put_signed.Goals as goal

pub returns-in-Err : goal.returns-in-Err
returns-in-Err g c = cut_first g.S.Sink.taken g.S.Sink.faults g.S.Sink.sure _ _ c.args.name.now (signed_decimal c.args.number) c.in-Err.ensures.put

pub returns : goal.returns
returns g c = puts_last g.S.Sink.taken g.S.Sink.faults g.S.Sink.sure _ _ _ c.args.name.now (signed_decimal c.args.number) _ c.in-Ok.ensures.put (puts_same g.S.Sink.taken g.S.Sink.faults g.S.Sink.sure _ _ _ _ _ (c.as_bytes.ensures.value ∙ c.format-text.ensures.text ∙ ap signed_decimal (to_z-of_z w64 c.args.number c.ranges.number)) c.put_all-2.ensures.put)
