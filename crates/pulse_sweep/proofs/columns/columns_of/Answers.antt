use Rattle.std.proofs.Common.{◌∙◌, ap}
use Rattle.tracer.specs.declared.Event.{Event}
use Rattle.pulse_sweep.specs.internal.Told.{joined_columns, first_columns}
use Rattle.pulse_sweep.proofs.Firsts.{firsts_start, firsts_next}
use Rattle.pulse_sweep.proofs.columns.columns_of.Goals as goal

pub loop-event-init : goal.loop-event-init
loop-event-init c = firsts_start c.new-columns.result (first_columns c.args.pulse c.args.cycle c.args.events.now) c.new-columns.ensures

pub loop-event-preserved : goal.loop-event-preserved
loop-event-preserved c = firsts_next c.args.pulse c.args.cycle c.args.events.now c.loop-event.event-index (Event.Resume 0) c.loop-event.columns c.or-columns.result _ c.loop-event-test.true c.loop-event.invariant (c.or-columns.ensures ∙ ap (joined_columns c.loop-event.columns) c.event_columns.ensures)
