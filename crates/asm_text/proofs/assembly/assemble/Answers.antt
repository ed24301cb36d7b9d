use Rattle.asm_text.proofs.KeptLemmas.{source_kept}
use Rattle.asm_text.proofs.assembly.assemble.Goals as goal

pub assemble_source-requires : goal.assemble_source-requires
assemble_source-requires c = record { kept = rw c.in_ok-source.ensures (source_kept c.args.bytes.now c.requires.size) }
