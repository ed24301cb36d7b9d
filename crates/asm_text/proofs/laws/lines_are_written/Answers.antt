use Rattle.asm_text.proofs.ReachLemmas.{code_is_written, words_are_written}
use Rattle.asm_text.proofs.SectionLemmas.{sections_are_lines}
use Rattle.asm_text.proofs.laws.lines_are_written.Goals as goal

pub returns : goal.returns
returns c = record { code = code_is_written; words = words_are_written; sections = sections_are_lines }
