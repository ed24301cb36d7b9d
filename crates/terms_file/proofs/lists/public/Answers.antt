use Rattle.terms_file.specs.Terms.{public_in}
use Rattle.terms_file.proofs.Pushing.{flat_more}
use Rattle.terms_file.proofs.lists.public.Goals as goal

pub loop-term-preserved : goal.loop-term-preserved
loop-term-preserved c =
    flat_more public_in c.args.terms.now c.loop-term.term-index _ c.loop-term.list.items c.push_public.new.list.items _ c.loop-term-test.true c.loop-term.invariant c.in_ok-push_public.ensures
