use Rattle.map_laws.proofs.Words.{entry_words, vector_lines}
use Rattle.map_laws.proofs.words_are_names.Goals as goal

pub returns-clause-entries : goal.returns-clause-entries
returns-clause-entries c = entry_words c.each_byte_is_given.ensures.tables

pub returns-clause-vectors : goal.returns-clause-vectors
returns-clause-vectors c = vector_lines c.each_byte_is_given.ensures.vectors
