use Rattle.flow_check.proofs.Subsuming.{opens, shuts}
use Rattle.flow_check.proofs.summaries.Summaries.answer.Goals as goal

pub returns-then-subsumes-clause-open : goal.returns-then-subsumes-clause-open
returns-then-subsumes-clause-open c = λ _ p call_string all.
    opens c.arms_rest.ensures.rest p c.in-Some.summary c.in-Open.told c.in-Open.is (c.in-Some.ensures.kept p all)
    c.args.site.now c.args.pc call_string c.args.state.now c.overlay_state.new.state c.in-Some.ensures.branch c.in-Some.ensures.site (c.subsumes.ensures c.if-subsumes.true) c.overlay_state.ensures.core c.overlay_state.ensures.words c.overlay_state.ensures.laid

pub returns-then-subsumes-2-clause-shut : goal.returns-then-subsumes-2-clause-shut
returns-then-subsumes-2-clause-shut c = λ _ p call_string all.
    shuts c.arms_rest.ensures.rest p c.in-Some.summary c.in-Shut.is (c.in-Some.ensures.kept p all)
    c.args.site.now c.args.pc call_string c.args.state.now c.in-Some.ensures.branch c.in-Some.ensures.site (c.subsumes-in-Shut.ensures c.if-subsumes-2.true)
