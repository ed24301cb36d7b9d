use Rattle.cpu_step.proofs.ThroughLemmas.{one_aligned, one_through, put_aligned}
use Rattle.cpu_step.proofs.doing.do_one.Goals as goal

pub returns-clause-core : goal.returns-clause-core
returns-clause-core g c =
    (one_through g.P.Port.answer g.P.Port.after_read g.P.Port.after_write c.args.core.now (g.P.Port.state c.args.port.now) c.args.op c.args.width c.args.arg
    _ _ _ _ _ _ _ _ _
    c.step_past.ensures c.extension-extension.ensures c.place.ensures c.increment.ensures
    c.take-value.ensures.value c.take-value.ensures.state c.carry-carry.ensures c.finish_one.ensures.core c.finish_one.ensures.state).0

pub returns-clause-state : goal.returns-clause-state
returns-clause-state g c =
    (one_through g.P.Port.answer g.P.Port.after_read g.P.Port.after_write c.args.core.now (g.P.Port.state c.args.port.now) c.args.op c.args.width c.args.arg
    _ _ _ _ _ _ _ _ _
    c.step_past.ensures c.extension-extension.ensures c.place.ensures c.increment.ensures
    c.take-value.ensures.value c.take-value.ensures.state c.carry-carry.ensures c.finish_one.ensures.core c.finish_one.ensures.state).1

pub take-value-requires-clause-aligned : goal.take-value-requires-clause-aligned
take-value-requires-clause-aligned g c =
    one_aligned c.args.core.now c.args.op c.args.width c.args.arg _ _ _
    c.requires.aligned c.step_past.ensures c.extension-extension.ensures c.place.ensures

pub finish_one-requires-clause-even : goal.finish_one-requires-clause-even
finish_one-requires-clause-even g c =
    one_aligned c.args.core.now c.args.op c.args.width c.args.arg _ _ _
    c.requires.aligned c.step_past.ensures c.extension-extension.ensures c.place.ensures

pub finish_one-requires-clause-aligned : goal.finish_one-requires-clause-aligned
finish_one-requires-clause-aligned g c =
    put_aligned c.args.core.now c.args.op c.args.width c.args.arg _ _ _ _
    c.requires.aligned c.step_past.ensures c.extension-extension.ensures c.place.ensures c.increment.ensures
