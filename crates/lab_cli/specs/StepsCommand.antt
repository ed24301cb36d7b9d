-- `steps IMAGE SCHEDULE CYCLES`: what the owner sees of a run, instruction by instruction.
use Rattle.std.specs.Prelude.{ℕ, List, Option, is_some}
use Rattle.image_text.specs.Image.{Image}
use Rattle.schedule_file.specs.declared.Entry.{Entry}
use Rattle.written_machine.specs.View.{at}
use Rattle.owner_steps.specs.Steps.{steps_text}
use Rattle.cli_calls.specs.Command.{Answer, Command, Outcome, gives, run_status}
use Rattle.cli_calls.specs.ImageRuns.{read_image_run}
use Rattle.cli_calls.specs.Words.{Text}

abbrev pub steps_answer : Image → List Entry → ℕ → Answer
steps_answer value entries cycles = record { text = steps_text value entries cycles; status = run_status (is_some (at value entries cycles).stop) }

abbrev pub steps_outcome : Image → List Entry → ℕ → Outcome
steps_outcome value entries cycles = gives (steps_answer value entries cycles)

abbrev pub read_steps : List Text → Option Command
read_steps values = read_image_run steps_outcome values
