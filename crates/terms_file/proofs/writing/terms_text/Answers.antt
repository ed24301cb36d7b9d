use Rattle.terms_file.specs.Terms.{term_line}
use Rattle.terms_file.proofs.Pushing.{flat_more}
use Rattle.terms_file.proofs.writing.terms_text.Goals as goal

pub loop-term-preserved : goal.loop-term-preserved
loop-term-preserved c =
    flat_more term_line c.args.terms.now c.loop-term.term-index _ c.loop-term.text.items c.push_term.new.text.items _
    c.loop-term-test.true c.loop-term.invariant c.in_ok-push_term.ensures
