use Rattle.texts.proofs.LawLemmas.{bytes_are_read, words_are_read, keys_are_read}
use Rattle.texts.proofs.laws.one_hexadecimal.Goals as goal

pub returns-clause-bytes : goal.returns-clause-bytes
returns-clause-bytes c = bytes_are_read

pub returns-clause-words : goal.returns-clause-words
returns-clause-words c = words_are_read

pub returns-clause-keys : goal.returns-clause-keys
returns-clause-keys c = keys_are_read
