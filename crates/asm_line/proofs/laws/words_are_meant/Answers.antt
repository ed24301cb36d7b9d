use Rattle.asm_line.proofs.MeaningLemmas.{words_are_meant}
use Rattle.asm_line.proofs.laws.words_are_meant.Goals as goal

pub returns : goal.returns
returns c = record { words = words_are_meant }
