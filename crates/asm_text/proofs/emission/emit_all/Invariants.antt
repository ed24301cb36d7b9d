use Rattle.std.proofs.Common.{length}
use Rattle.asm_text.specs.internal.Emitted.{emitted_of, meanings_value}
use Rattle.asm_text.specs.Placing.{Placed}
use Rattle.asm_text.proofs.EmittingLemmas.{IsEmitting}
use Rattle.asm_text.proofs.emission.emit_all.Given as goal

abbrev pub invariant-loop-index : goal.invariant-loop-index
invariant-loop-index l = (end : Placed) × IsEmitting (meanings_value l.meanings) (length l.meanings.spots.now) l.statements end l.index (emitted_of l.emission)
