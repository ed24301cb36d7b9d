use Rattle.std.proofs.Common.{ℕ, List, ◌∙◌, ap}
use Rattle.tracer.specs.declared.Event.{Event}
use Rattle.pulse_sweep.specs.internal.Told.{joined_columns, columns_of}
use Rattle.pulse_sweep.proofs.run.Run.tick.Goals as goal

pub returns-clause-columns : goal.returns-clause-columns
returns-clause-columns c =
    let s = c.args.board.now.present in
    c.or-self.ensures
    ∙ ap (joined_columns c.args.self.now.columns)
    (c.columns_of-columns.ensures
    ∙ ap (λ (k : ℕ). columns_of c.args.pulse k c.as_slice.result.now) c.cycle_of-cycle.ensures
    ∙ ap (λ (es : List Event). columns_of c.args.pulse s.cycle es) (c.as_slice.ensures.value ∙ c.tick-events.ensures.events))
