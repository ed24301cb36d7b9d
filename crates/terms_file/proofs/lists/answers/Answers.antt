use Rattle.terms_file.specs.Terms.{answer_in}
use Rattle.terms_file.proofs.Pushing.{flat_more}
use Rattle.terms_file.proofs.lists.answers.Goals as goal

pub loop-term-preserved : goal.loop-term-preserved
loop-term-preserved c =
    flat_more answer_in c.args.terms.now c.loop-term.term-index _ c.loop-term.list.items c.push_answer.new.list.items _ c.loop-term-test.true c.loop-term.invariant c.in_ok-push_answer.ensures
