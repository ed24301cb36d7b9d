-- What the code's own invariants say of: SweepCommand.
use Rattle.std.specs.Prelude.{◌≤◌}
use Rattle.schedule_file.specs.declared.TheConstants.{MAX_CYCLE}
use Rattle.pulse_sweep.specs.declared.Pulses.{Pulses}
use Rattle.cli_calls.specs.declared.values.TheConstants.{MAX_CYCLES}
use Rattle.lab_cli.specs.declared.sweep.TheConstants.{MAX_LINE}

-- its numbers are within their bounds
abbrev pub IsWithin : Pulses → Type 0
IsWithin pulses = (pulses.line ≤ MAX_LINE) × (pulses.to ≤ MAX_CYCLE) × (pulses.cycles ≤ MAX_CYCLES)
