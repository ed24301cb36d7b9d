use Rattle.std.proofs.Common.{◌≡◌, drop}
use Rattle.pulse_sweep.specs.internal.Told.{joined_columns, first_columns}
use Rattle.pulse_sweep.proofs.columns.columns_of.Given as goal

abbrev pub invariant-loop-event : goal.invariant-loop-event
invariant-loop-event l = joined_columns l.columns (first_columns l.pulse l.cycle (drop l.event-index l.events)) ≡ first_columns l.pulse l.cycle l.events
