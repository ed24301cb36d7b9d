use Rattle.asm_line.proofs.DecodedLemmas.{words_come_back}
use Rattle.asm_line.proofs.ShownLemmas.{shown_is_read}
use Rattle.asm_line.proofs.laws.shown_is_read.Goals as goal

pub returns : goal.returns
returns c = record { read = shown_is_read; words = words_come_back }
