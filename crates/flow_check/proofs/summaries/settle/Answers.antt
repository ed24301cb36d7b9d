use Rattle.std.proofs.Common.{refl, sym, subst}
use Rattle.flow_rule.specs.Absorbs.{Absorbs}
use Rattle.flow_check.proofs.Iterating.{absorbs_own}
use Rattle.flow_check.proofs.Subsuming.{opens, shuts}
use Rattle.flow_check.proofs.summaries.settle.Goals as goal

pub returns-in-Open-clause-open : goal.returns-in-Open-clause-open
returns-in-Open-clause-open c = λ _ p call_string is.
    let w = c.args.walked.now in
    let own : Absorbs w.state c.args.state.now = subst (λ s. Absorbs s c.args.state.now) (sym c.requires.own) (absorbs_own c.args.state.now) in
    opens c.arms_rest.ensures.rest p w c.in-Open.told c.in-Open.is is w.site w.branch call_string c.args.state.now c.overlay_state.new.state refl refl own
    c.overlay_state.ensures.core c.overlay_state.ensures.words c.overlay_state.ensures.laid

pub returns-in-Shut-clause-shut : goal.returns-in-Shut-clause-shut
returns-in-Shut-clause-shut c = λ _ p call_string is.
    let w = c.args.walked.now in
    let own : Absorbs c.args.state.now w.state = subst (λ s. Absorbs c.args.state.now s) (sym c.requires.own) (absorbs_own c.args.state.now) in
    shuts c.arms_rest.ensures.rest p w c.in-Shut.is is w.site w.branch call_string c.args.state.now refl refl own
