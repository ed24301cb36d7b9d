-- The laws of a command's files and of workloads. Each is what a function of this crate ensures.
use Rattle.std.specs.Prelude.{◌≡◌, ◌<◌, ◌≤◌, ◌↔◌, ◌++◌, ℕ, List, length, Option, Some, None, ◌⊎◌}
use Rattle.sm_io.specs.Files.{FileMap}
use Rattle.sm_io.specs.Sink.{CutOff}
use Rattle.schedule_file.specs.declared.Entry.{Entry}
use Rattle.pc_access.specs.declared.Stop.{Stop}
use Rattle.image_text.specs.Image.{Image}
use Rattle.tracer.specs.Lines.{event_line}
use Rattle.tracer.specs.declared.Event.TheVariants.{Stop as StopEvent}
use Rattle.written_machine.specs.Checks.{refused_in}
use Rattle.written_machine.specs.Trace.{trace}
use Rattle.written_machine.specs.View.{at}
use Rattle.cli_files.specs.declared.answers.FileFault.{FileFault}
use Rattle.cli_files.specs.declared.answers.Refusal.{Refusal}
use Rattle.cli_files.specs.declared.answers.Status.{Status}
use Rattle.cli_files.specs.declared.answers.Status.TheVariants.{Stopped}
use Rattle.cli_files.specs.Files.{IsFirstFault}
use Rattle.cli_files.specs.Refusal.{refusal_line}
use Rattle.cli_calls.specs.Command.{Command, Outcome, refuses, Comes, Answer, IsAnswer, trace_answer}
use Rattle.link_symbols.specs.declared.fault.LinkFault.{LinkFault}
use Rattle.cli_calls.specs.CommandNames.{command_of}
use Rattle.sm_cli.specs.CommandLine.{sancus_commands}
use Rattle.sm_cli.specs.MakeCommand.{run_text, run_start}
use Rattle.cli_calls.specs.Calls.{Call, Serves, IsCalledFor, Refuses}
use Rattle.cli_calls.specs.Words.{Text}

-- Of every command, on files that are told, something comes, or there is a first file that does not serve.
abbrev pub IsDecided : Type 0
IsDecided = (map : FileMap) (command : Command) → ((outcome : Outcome) × Comes (Some map) command outcome) ⊎ ((name : List ℕ) × (fault : FileFault) × IsFirstFault (Some map) command.needs name fault)

-- And of every command line an answer comes of it, unless objects do not link.
abbrev pub IsAnswered : Type 0
IsAnswered = (words : List Text) (map : FileMap) (command : Command) (outcome : Outcome) → command_of sancus_commands words ≡ Some command → Comes (Some map) command outcome →
    ((answer : Answer) × IsAnswer (Some map) command answer) ⊎ ((fault : LinkFault) × (name : List ℕ) × (outcome ≡ refuses fault name))

-- And no other answer comes of it.
abbrev pub HasOneAnswer : Type 0
HasOneAnswer = (map : FileMap) (command : Command) (a b : Answer) → IsAnswer (Some map) command a → IsAnswer (Some map) command b → a ≡ b

module _ {S : Type 0} (taken : S → Option (List ℕ)) (faults sure : S → ℕ) where
  -- A sink that is sure of as many bytes as each answer of a call has is not cut off within one.
  abbrev pub AnswersAreTaken : Type 0
  AnswersAreTaken = (call : Call) (ended : Status) (old new : S) →
      ((command : Command) (answer : Answer) → call.asked ≡ Some command → IsAnswer call.files command answer → length answer.text ≤ sure old) →
      ¬ (Serves call ended (CutOff taken faults sure old new))

  -- And where it is sure of as many as each line of a refusal has, not within such a line.
  abbrev pub LinesAreTaken : Type 0
  LinesAreTaken = (call : Call) (ended : Status) (old new : S) →
      ((refused : Refusal) (name : List ℕ) → IsCalledFor call refused name → length (refusal_line call.program refused name) ≤ sure old) →
      ¬ (Refuses call ended (CutOff taken faults sure old new))

-- in cycle k of this run a check is refused first, the machine stops by it, and the trace has its line
pub record StopsIn (value : Image) (entries : List Entry) (cycles k : ℕ) : Type 0 where
  pub within : k < cycles
  pub running : (at value entries k).stop ≡ None
  pub stop : Stop
  pub refused : refused_in (at value entries k) ≡ Some stop
  pub before : List ℕ
  pub after : List ℕ
  pub line : trace value entries cycles ≡ before ++ (event_line (at value entries k).cycle (StopEvent stop) ++ after)

-- A run is answered Stopped exactly where, in some cycle below its bound, a check is refused.
abbrev pub RunsStop : Type 0
RunsStop = (value : Image) (entries : List Entry) (cycles : ℕ) → ((trace_answer value entries cycles).status ≡ Stopped) ↔ ((k : ℕ) × StopsIn value entries cycles k)

-- The runs of a seed are told alike, however long they are and whatever the words of their module's data.
abbrev pub RunsAreAlike : Type 0
RunsAreAlike = (seed cycles v w : ℕ) → v < 65536 → w < 65536 → run_text (run_start seed v) cycles ≡ run_text (run_start seed w) cycles
