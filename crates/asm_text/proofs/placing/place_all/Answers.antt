use Rattle.std.proofs.Common.{◌<◌, length, arith}
use Rattle.asm_text.proofs.PlacingLemmas.{placing_more}
use Rattle.asm_text.proofs.placing.place_all.Goals as goal

pub loop-index-preserved : goal.loop-index-preserved
loop-index-preserved c =
    let low : c.loop-index.index < length c.args.statements.now = omega arith in
    placing_more c.args.names c.args.statements.now c.loop-index.index _ _ _ c.loop-index.invariant c.requires.known low c.in_default.ensures.placed
