use Rattle.std.proofs.Common.{◌-◌, ◌<◌, List, length, arith, sym, ap, ◌∙◌, subst}
use Rattle.flow_rule.specs.declared.Verdict.{Verdict}
use Rattle.written_machine.specs.Peers.{section}
use Rattle.cli_calls.specs.Offers.{standing_terms, IsOffered}
use Rattle.lab_cli.proofs.Settling.{ends_here, goes_past}
use Rattle.lab_cli.proofs.terms.settle.Goals as goal

pub loop-verdicts-init : goal.loop-verdicts-init
loop-verdicts-init c = λ terms v h.
    subst (λ (vs : List Verdict). IsOffered c.args.chosen.now.«module»
    (section c.args.chosen.now.«module».text c.args.chosen.now.image.memory) c.args.arms.now.list.items
    c.args.granted.now (length c.args.granted.now) vs terms v)
    c.new-verdicts.ensures.items h

pub returns-then-not-goes_on : goal.returns-then-not-goes_on
returns-then-not-goes_on c =
    let owner = c.args.chosen.now.«module» in
    let stand = c.in_ok-terms.ensures ∙ ap (standing_terms c.args.granted.now) c.as_slice.ensures.value in
    let none = sym c.goes_on.ensures.exact ∙ c.if-not-goes_on.true in
    c.loop-verdicts.invariant c.in_ok-terms.terms.list.items c.in_ok-verdict.verdict
    (ends_here owner (section owner.text c.args.chosen.now.image.memory) c.args.arms.now.list.items
    c.args.granted.now c.loop-verdicts.left c.loop-verdicts.verdicts.items
    c.in_ok-terms.terms.list.items c.in_ok-verdict.verdict stand c.in_ok-verdict.ensures none)

pub loop-verdicts-preserved : goal.loop-verdicts-preserved
loop-verdicts-preserved c = λ terms v h.
    let owner = c.args.chosen.now.«module» in
    let text = section owner.text c.args.chosen.now.image.memory in
    let stand = c.in_ok-terms.ensures ∙ ap (standing_terms c.args.granted.now) c.as_slice.ensures.value in
    let some = sym c.goes_on.ensures.exact ∙ c.if-not-goes_on.false in
    let pushed = subst (λ (vs : List Verdict). IsOffered owner text c.args.arms.now.list.items c.args.granted.now
    (c.loop-verdicts.left - 1) vs terms v) c.in_ok-push.ensures.items h in
    c.loop-verdicts.invariant terms v
    (goes_past owner text c.args.arms.now.list.items c.args.granted.now c.loop-verdicts.left
    c.loop-verdicts.verdicts.items c.in_ok-verdict.verdict c.in_ok-terms.terms.list.items terms v
    stand c.in_ok-verdict.ensures some pushed)

pub loop-verdicts-smaller : goal.loop-verdicts-smaller
loop-verdicts-smaller c =
    let some : 0 < c.loop-verdicts.left = c.goes_on.ensures.some c.if-not-goes_on.false in
    omega (arith, some)
