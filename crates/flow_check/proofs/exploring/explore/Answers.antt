use Rattle.std.proofs.Common.{arith, ◌∙◌, subst, []}
use Rattle.flow_laws.specs.Exploring.{forks, take_state, most_states}
use Rattle.flow_check.specs.internal.Programs.{flow_by}
use Rattle.flow_check.specs.internal.Exploring.{held_point, stacked, Takes}
use Rattle.flow_check.proofs.Holdings.{explore_pop, explore_out, explore_end, none_of}
use Rattle.flow_check.proofs.exploring.explore.Goals as goal

pub returns-then-left-eq0 : goal.returns-then-left-eq0
returns-then-left-eq0 c = c.loop-held.invariant ∙ explore_out (flow_by c.args.program.now) (forks c.args.program.now.module.now c.args.program.now.text.now) c.loop-held.to_come.items c.pop.new.self.items c.loop-held.kept.items c.loop-held.left c.in-Some.held c.in-Some.ensures.items c.if-left-eq0.true

pub loop-held-preserved : goal.loop-held-preserved
loop-held-preserved c =
    let t = subst (λ a. Takes a (take_state (flow_by c.args.program.now) (forks c.args.program.now.module.now c.args.program.now.text.now) most_states (held_point c.in-Some.held) (stacked c.pop.new.self.items []) (stacked c.loop-held.kept.items [])) c.take.new.to_come.items c.take.new.kept.items) c.in-On.is c.in_ok-take.ensures in
    c.loop-held.invariant ∙ explore_pop (flow_by c.args.program.now) (forks c.args.program.now.module.now c.args.program.now.text.now) c.loop-held.to_come.items c.pop.new.self.items c.loop-held.kept.items c.loop-held.left c.in-Some.held _ c.in-Some.ensures.items c.if-left-eq0.false t

pub returns-in-Wrong : goal.returns-in-Wrong
returns-in-Wrong c =
    let t = subst (λ a. Takes a (take_state (flow_by c.args.program.now) (forks c.args.program.now.module.now c.args.program.now.text.now) most_states (held_point c.in-Some.held) (stacked c.pop.new.self.items []) (stacked c.loop-held.kept.items [])) c.take.new.to_come.items c.take.new.kept.items) c.in-Wrong.is c.in_ok-take.ensures in
    (t.0, t.1, c.loop-held.invariant ∙ explore_pop (flow_by c.args.program.now) (forks c.args.program.now.module.now c.args.program.now.text.now) c.loop-held.to_come.items c.pop.new.self.items c.loop-held.kept.items c.loop-held.left c.in-Some.held _ c.in-Some.ensures.items c.if-left-eq0.false t.2)

pub returns-in-Full : goal.returns-in-Full
returns-in-Full c =
    let t = subst (λ a. Takes a (take_state (flow_by c.args.program.now) (forks c.args.program.now.module.now c.args.program.now.text.now) most_states (held_point c.in-Some.held) (stacked c.pop.new.self.items []) (stacked c.loop-held.kept.items [])) c.take.new.to_come.items c.take.new.kept.items) c.in-Full.is c.in_ok-take.ensures in
    c.loop-held.invariant ∙ explore_pop (flow_by c.args.program.now) (forks c.args.program.now.module.now c.args.program.now.text.now) c.loop-held.to_come.items c.pop.new.self.items c.loop-held.kept.items c.loop-held.left c.in-Some.held _ c.in-Some.ensures.items c.if-left-eq0.false t

pub returns : goal.returns
returns c = (stacked c.loop-held.kept.items [], c.loop-held.invariant ∙ explore_end (flow_by c.args.program.now) (forks c.args.program.now.module.now c.args.program.now.text.now) c.loop-held.to_come.items c.pop.new.self.items c.loop-held.kept.items c.loop-held.left (none_of c.loop-held.to_come.items (omega (arith, c.loop-held.to_come.ok.0, c.in_default.ensures.cases.0))))
