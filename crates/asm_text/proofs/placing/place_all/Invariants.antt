use Rattle.asm_text.specs.internal.Placed.{placed_of}
use Rattle.asm_text.proofs.PlacingLemmas.{IsPlacing}
use Rattle.asm_text.proofs.placing.place_all.Given as goal

abbrev pub invariant-loop-index : goal.invariant-loop-index
invariant-loop-index l = IsPlacing l.names l.statements l.index (placed_of l.layout)
