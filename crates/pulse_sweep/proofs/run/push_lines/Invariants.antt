use Rattle.std.proofs.Common.{◌≡◌, ◌++◌, drop}
use Rattle.std.specs.List.{flat_map}
use Rattle.tracer.specs.Lines.{event_line}
use Rattle.written_machine.specs.Trace.{event_lines}
use Rattle.pulse_sweep.proofs.run.push_lines.Given as goal

abbrev pub invariant-loop-event : goal.invariant-loop-event
invariant-loop-event l = l.trace.items ++ flat_map (event_line l.cycle) (drop l.event-index l.events) ≡ l.initial.trace.items ++ event_lines l.cycle l.events
