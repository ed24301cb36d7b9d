use Rattle.std.proofs.Common.{not, sym, ◌∙◌}
use Rattle.lab_cli.specs.PublicWords.{is_data_word}
use Rattle.lab_cli.proofs.FirstNamed.{next_has, next_lacks}
use Rattle.lab_cli.proofs.public_words.not_data.Goals as goal

pub returns-in-Some : goal.returns-in-Some
returns-in-Some c =
    next_has (λ a. not (is_data_word c.args.«module».now a)) c.args.terms.now c.loop-term.term-index _ _
    c.loop-term-test.true c.loop-term.invariant c.in-Some.addr c.in-Some.ensures

pub loop-term-preserved : goal.loop-term-preserved
loop-term-preserved c =
    next_lacks (λ a. not (is_data_word c.args.«module».now a)) c.args.terms.now c.loop-term.term-index _ _
    c.loop-term-test.true c.loop-term.invariant (sym c.in_default.is ∙ c.outside.ensures)
