use Rattle.cpu_step.proofs.ThroughLemmas.{source_aligned, two_aligned, two_through}
use Rattle.cpu_step.proofs.doing.do_two.Goals as goal

pub returns-clause-core : goal.returns-clause-core
returns-clause-core g c =
    (two_through g.P.Port.answer g.P.Port.after_read g.P.Port.after_write c.args.core.now (g.P.Port.state c.args.port.now) c.args.op c.args.width c.args.src c.args.dst
    _ _ _ _ _ _ _ _ _ _ _ _ _ _
    c.step_past.ensures c.extension-extension.ensures c.place.ensures c.increment.ensures c.second_extension.ensures c.place-2.ensures
    c.take-source.ensures.value c.take-source.ensures.state c.take_old-old.ensures.value c.take_old-old.ensures.state c.carry-carry.ensures c.two_result-computed.ensures.computed
    c.finish_two.ensures.core c.finish_two.ensures.state).0

pub returns-clause-state : goal.returns-clause-state
returns-clause-state g c =
    (two_through g.P.Port.answer g.P.Port.after_read g.P.Port.after_write c.args.core.now (g.P.Port.state c.args.port.now) c.args.op c.args.width c.args.src c.args.dst
    _ _ _ _ _ _ _ _ _ _ _ _ _ _
    c.step_past.ensures c.extension-extension.ensures c.place.ensures c.increment.ensures c.second_extension.ensures c.place-2.ensures
    c.take-source.ensures.value c.take-source.ensures.state c.take_old-old.ensures.value c.take_old-old.ensures.state c.carry-carry.ensures c.two_result-computed.ensures.computed
    c.finish_two.ensures.core c.finish_two.ensures.state).1

pub take-source-requires-clause-aligned : goal.take-source-requires-clause-aligned
take-source-requires-clause-aligned g c =
    source_aligned c.args.core.now c.args.op c.args.width c.args.src c.args.dst _ _ _
    c.requires.aligned c.step_past.ensures c.extension-extension.ensures c.place.ensures

pub take_old-old-requires-clause-aligned : goal.take_old-old-requires-clause-aligned
take_old-old-requires-clause-aligned g c =
    two_aligned c.args.core.now c.args.op c.args.width c.args.src c.args.dst _ _ _ _ _ _
    c.requires.aligned c.step_past.ensures c.extension-extension.ensures c.place.ensures c.increment.ensures c.second_extension.ensures c.place-2.ensures

pub finish_two-requires-clause-aligned : goal.finish_two-requires-clause-aligned
finish_two-requires-clause-aligned g c =
    two_aligned c.args.core.now c.args.op c.args.width c.args.src c.args.dst _ _ _ _ _ _
    c.requires.aligned c.step_past.ensures c.extension-extension.ensures c.place.ensures c.increment.ensures c.second_extension.ensures c.place-2.ensures
