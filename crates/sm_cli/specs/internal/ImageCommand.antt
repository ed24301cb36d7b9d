-- What the code's own invariants say of: ImageCommand.
use Rattle.std.specs.Prelude.{ℕ, ◌++◌, is_some}
use Rattle.written_machine.specs.Cycle.{after_cycles}
use Rattle.written_machine.specs.State.{State}
use Rattle.written_machine.specs.Trace.{lines_after, end_line_of}
use Rattle.cli_calls.specs.Command.{Answer, run_status}

-- what a run of that many cycles from a state writes, and its status
abbrev pub answer_from : State → ℕ → Answer
answer_from s cycles = record { text = lines_after s cycles ++ end_line_of (after_cycles s cycles); status = run_status (is_some (after_cycles s cycles).stop) }
