use Rattle.asm_text.specs.internal.Emitted.{emitted_of}
use Rattle.asm_text.specs.internal.Placed.{placed_of}
use Rattle.asm_text.specs.internal.Read.{source_value}
use Rattle.asm_text.proofs.UnitLemmas.{unit_kept}
use Rattle.asm_text.proofs.assembly.unit_for.Goals as goal

pub invariant_of-result : goal.invariant_of-result
invariant_of-result c =
    record { sound = rw c.in_ok-symbols.ensures (unit_kept (source_value c.args.source.now) (placed_of c.args.layout.now) (emitted_of c.in-Ok.emission) c.requires.kept c.requires.sound c.requires.placed c.in-Ok.ensures.emitted) }
