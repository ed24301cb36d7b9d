-- The outside trace.
use Rattle.std.specs.Prelude.{ℕ, zero, suc, List, [], ◌++◌, Option, Some, None, flat_map}
use Rattle.schedule_file.specs.declared.Entry.{Entry}
use Rattle.pc_access.specs.declared.Stop.{Stop}
use Rattle.image_text.specs.Image.{Image}
use Rattle.tracer.specs.Lines.{event_line, end_line_at}
use Rattle.tracer.specs.declared.EndState.{EndState}
use Rattle.tracer.specs.declared.EndState.TheVariants.{Stopped as EndsStopped, Inside, Outside}
use Rattle.tracer.specs.declared.Event.{Event}
use Rattle.written_machine.specs.Cycle.{cycle, after_cycles}
use Rattle.written_machine.specs.State.{State}
use Rattle.written_machine.specs.View.{boot, at}

-- the lines of a cycle's events, in their order
abbrev pub event_lines : ℕ → List Event → List ℕ
event_lines c events = flat_map (event_line c) events

-- how a state stands at the end: by the stop, if there is one, and by the active module, if there is one
abbrev pub end_by : Option Stop → Option ℕ → List ℕ → EndState
end_by (Some stop) active core = EndsStopped
end_by None (Some id) core = Inside id
end_by None None core = Outside core

-- the end line, with the number of cycles that have passed
abbrev pub end_line_of : State → List ℕ
end_line_of s = end_line_at s.cycle (end_by s.stop s.active s.core)

-- the lines of the next n cycles
abbrev pub lines_after : State → ℕ → List ℕ
lines_after s zero = []
lines_after s (suc n) = let t = after_cycles s n in lines_after s n ++ event_lines t.cycle (cycle t).events

-- the outside trace
abbrev pub trace : Image → List Entry → ℕ → List ℕ
trace image schedule n = lines_after (boot image schedule) n ++ end_line_of (at image schedule n)
