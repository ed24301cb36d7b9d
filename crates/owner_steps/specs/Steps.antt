-- The owner's view of a run: the trace, and among its lines each instruction with what it reads and writes, and the registers that change.
use Rattle.std.specs.Prelude.{ℕ, zero, suc, List, [], ◌++◌, drop, take, Bool, true, false, Option, Some, None}
use Rattle.std.specs.List.{prefix_len}
use Rattle.image_text.specs.Image.{Image}
use Rattle.schedule_file.specs.declared.Entry.{Entry}
use Rattle.tracer.specs.declared.Event.{Event}
use Rattle.tracer.specs.declared.Event.TheVariants.{Reti, Protect, Out, Stop}
use Rattle.written_machine.specs.Cycle.{cycle, after_cycles}
use Rattle.written_machine.specs.State.{State}
use Rattle.written_machine.specs.Trace.{end_line_of, event_lines}
use Rattle.written_machine.specs.View.{boot}
use Rattle.owner_steps.specs.Begun.{Begun, begun}
use Rattle.owner_steps.specs.Registers.{registers_line}

-- what is told of a cycle before an instruction begins
abbrev pub is_early : Event → Bool
is_early Reti = false
is_early (Protect id) = false
is_early (Out byte) = false
is_early (Stop stop) = false
is_early _ = true

abbrev pub early_count : List Event → ℕ
early_count events = prefix_len is_early events

-- the registers that changed without an instruction, and then the instruction with those that it changed: PC where it is not behind it
abbrev pub lines_between : List ℕ → Option Begun → List ℕ → List ℕ
lines_between old None new = registers_line old new
lines_between old (Some b) new = registers_line old b.core ++ b.lines ++ registers_line b.past new

abbrev pub owner_lines : State → List ℕ
owner_lines s = lines_between s.core (begun s) (cycle s).state.core

-- the lines of the next cycle, with others among them
abbrev pub lines_with : (State → List ℕ) → State → List ℕ
lines_with more s =
    let events = (cycle s).events in
    event_lines s.cycle (take (early_count events) events) ++ more s
    ++ event_lines s.cycle (drop (early_count events) events)

-- those of the next n cycles
abbrev pub run_with : (State → List ℕ) → State → ℕ → List ℕ
run_with more s zero = []
run_with more s (suc n) = run_with more s n ++ lines_with more (after_cycles s n)

-- the lines of a run, and its end line
abbrev pub text_with : (State → List ℕ) → State → ℕ → List ℕ
text_with more s n = run_with more s n ++ end_line_of (after_cycles s n)

-- the text of a run from an image
abbrev pub steps_text : Image → List Entry → ℕ → List ℕ
steps_text image schedule n = text_with owner_lines (boot image schedule) n
