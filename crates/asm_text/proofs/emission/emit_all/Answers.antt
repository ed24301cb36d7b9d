use Rattle.std.proofs.Common.{◌<◌, length, arith}
use Rattle.asm_text.specs.internal.Emitted.{emitted_of, meanings_value}
use Rattle.asm_text.proofs.EmittingLemmas.{emitting_room, emitting_more}
use Rattle.asm_text.proofs.emission.emit_all.Goals as goal

pub add-requires-clause-room : goal.add-requires-clause-room
add-requires-clause-room c =
    let low : c.loop-index.index < length c.args.statements.now = omega arith in
    emitting_room (meanings_value c.args.meanings.now) (length c.args.meanings.now.spots.now) c.args.statements.now c.loop-index.invariant.0 c.loop-index.index (emitted_of c.loop-index.emission) _ c.loop-index.invariant.1 low

pub loop-index-preserved : goal.loop-index-preserved
loop-index-preserved c =
    let low : c.loop-index.index < length c.args.statements.now = omega arith in
    (c.loop-index.invariant.0, emitting_more (meanings_value c.args.meanings.now) (length c.args.meanings.now.spots.now) c.args.statements.now c.loop-index.invariant.0 c.loop-index.index (emitted_of c.loop-index.emission) _ _ c.loop-index.invariant.1 c.requires.spots low c.in_default.ensures.emitted)
