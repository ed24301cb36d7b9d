use Rattle.script_file.proofs.LineLemmas.{lines_are_read}
use Rattle.script_file.proofs.laws.one_text_a_line.Goals as goal

pub returns : goal.returns
returns c = record { read = lines_are_read }
