-- A cycle, by the stop of the state before it.
use Rattle.std.proofs.Common.{Option, Some, None}
use Rattle.pc_access.specs.declared.Stop.{Stop}
use Rattle.written_machine.specs.Cycle.{Step, quiet, move}
use Rattle.written_machine.specs.State.{State}

abbrev pub cycle_by : Option Stop → State → Step
cycle_by o s = elim o [ Some stop ↦ quiet s | None ↦ move s ]
