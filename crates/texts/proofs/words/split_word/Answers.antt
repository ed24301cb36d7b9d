use Rattle.std.proofs.Common.{sym, ◌∙◌}
use Rattle.texts.proofs.LineLemmas.{rest_at}
use Rattle.texts.proofs.WordLemmas.{words_at, words_whole}
use Rattle.texts.proofs.words.split_word.Goals as goal

pub returns-in-None-clause-whole : goal.returns-in-None-clause-whole
returns-in-None-clause-whole c = words_whole c.args.line.now (sym c.first_space.ensures.place ∙ c.in-None.is)

pub returns-in-Some-clause-words : goal.returns-in-Some-clause-words
returns-in-Some-clause-words c = rw (rest_at c.args.line.now c.in-Some.end) (words_at c.args.line.now c.in-Some.end (sym c.first_space.ensures.place ∙ c.in-Some.is))
