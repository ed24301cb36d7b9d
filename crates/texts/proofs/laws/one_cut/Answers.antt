use Rattle.texts.proofs.LawLemmas.{texts_are_lines, lines_are_read}
use Rattle.texts.proofs.laws.one_cut.Goals as goal

pub returns-clause-texts : goal.returns-clause-texts
returns-clause-texts c = texts_are_lines

pub returns-clause-read : goal.returns-clause-read
returns-clause-read c = lines_are_read
