use Rattle.std.proofs.Common.{sym, ◌∙◌}
use Rattle.asm_line.proofs.WordLemmas.{too_many_words, some_of}
use Rattle.asm_line.proofs.line.statement_of.Goals as goal

pub returns-then-is_some : goal.returns-then-is_some
returns-then-is_some c =
    let last = some_of _ c.split_word-3.result (sym c.is_some.ensures ∙ c.if-is_some.true) c.split_word-3.ensures.words in
    record { exact = sym (too_many_words c.args.line.now _ _ _ _ last.value.0.now last.value.1.now c.in-Some.ensures.words c.in-Some-split_word.ensures.words last.holds) }
