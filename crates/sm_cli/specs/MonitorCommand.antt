-- `monitor IMAGE SCHEDULE SCRIPT`: what a script writes on the machine of an image.
use Rattle.std.specs.Prelude.{List, [], ◌∷◌, ◌++◌, Option, Some, None, is_some}
use Rattle.image_text.specs.Image.{Image}
use Rattle.schedule_file.specs.declared.Entry.{Entry}
use Rattle.written_machine.specs.Marks.{Marked, unmarked}
use Rattle.written_machine.specs.Script.{led, moves, play}
use Rattle.written_machine.specs.View.{boot}
use Rattle.written_machine.specs.declared.ScriptLine.{ScriptLine}
use Rattle.sm_cli.specs.declared.commands.script.TheConstants.{MOST_MARKS}
use Rattle.cli_calls.specs.Words.{Text}
use Rattle.cli_calls.specs.Values.{file_named}
use Rattle.cli_files.specs.Files.{Held, an_image, a_script, image_file, script_file, need, schedule_needs}
use Rattle.cli_calls.specs.Command.{Answer, Outcome, gives, nothing, Command, run_status}
use Rattle.cli_calls.specs.ImageRuns.{with_schedule}

-- what a script writes, and its status: whether the machine is stopped at the end
abbrev pub play_answer : Marked → List ScriptLine → Answer
play_answer g script = record { text = play g script; status = run_status (is_some (led g (moves g script)).present.stop) }

-- the machine of an image before its first cycle, with no mark yet
abbrev pub script_start : Image → List Entry → Marked
script_start value entries = unmarked MOST_MARKS (boot value entries)

abbrev pub script_answer : Image → List Entry → List ScriptLine → Answer
script_answer value entries script = play_answer (script_start value entries) script

abbrev pub script_outcome : Image → List Entry → List Held → Outcome
script_outcome value entries (a_script script ∷ []) = gives (script_answer value entries script)
script_outcome value entries _ = nothing

abbrev pub monitor_outcome : List Held → Outcome
monitor_outcome (an_image value ∷ more) = with_schedule (script_outcome value) more
monitor_outcome _ = nothing

abbrev pub monitor_command : Text → Option Text → Text → Command
monitor_command name schedule script = record { needs = need name image_file ∷ (schedule_needs schedule ++ need script script_file ∷ []); outcome = monitor_outcome }

abbrev pub read_monitor : List Text → Option Command
read_monitor (name ∷ schedule ∷ script ∷ []) = Some (monitor_command name (file_named schedule) script)
read_monitor _ = None
