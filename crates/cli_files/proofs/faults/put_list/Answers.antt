use Rattle.std.proofs.Common.{[], ◌++◌, get_or, refl}
use Rattle.sm_io.proofs.Putting.{took_nothing, cut_within, took_then, at_piece, past_piece}
use Rattle.cli_files.proofs.faults.put_list.Invariants.{number_text}
use Rattle.cli_files.proofs.faults.put_list.Goals as goal

pub loop-number-init : goal.loop-number-init
loop-number-init g c = ([], refl, took_nothing g.S.Sink.taken g.S.Sink.faults g.S.Sink.sure _)

pub returns-in-Err : goal.returns-in-Err
returns-in-Err g c =
    let i = c.loop-number.invariant in
    let piece = number_text (get_or c.args.numbers.now c.loop-number.number-index 0) in
    cut_within g.S.Sink.taken g.S.Sink.faults g.S.Sink.sure _ _ _ i.0 piece _ _ (at_piece number_text c.args.numbers.now c.loop-number.number-index 0 i.0 _ c.loop-number-test.true i.1) i.2 c.in-Err.ensures

pub loop-number-preserved : goal.loop-number-preserved
loop-number-preserved g c =
    let i = c.loop-number.invariant in
    let piece = number_text (get_or c.args.numbers.now c.loop-number.number-index 0) in (
      i.0 ++ piece,
      past_piece number_text c.args.numbers.now c.loop-number.number-index 0 i.0 _ c.loop-number-test.true i.1,
      took_then g.S.Sink.taken g.S.Sink.faults g.S.Sink.sure _ _ _ i.0 piece i.2 c.in-Ok.ensures,
    )
