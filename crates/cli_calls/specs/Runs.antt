-- What a command is answered, and why it is refused.
use Rattle.std.specs.Prelude.{◌≡◌, ℕ, false, List, Option}
use Rattle.sm_io.specs.Faults.{HasCause}
use Rattle.sm_io.specs.Files.{FileMap}
use Rattle.cli_files.specs.declared.answers.Status.{Status}
use Rattle.cli_files.specs.declared.answers.Status.TheVariants as status
use Rattle.cli_files.specs.declared.answers.Refusal.{Refusal}
use Rattle.cli_files.specs.declared.answers.Refusal.TheVariants as refusal
use Rattle.cli_files.specs.Causes.{IsNeedCause}
use Rattle.image_text.specs.Image.{IsImage}
use Rattle.cli_calls.specs.Command.{Answer, Command, Comes, Outcome, runs, refuses, IsAnswer}

-- an answer ended with this status: its text was taken, or cut off
abbrev pub EndsAs : Status → Answer → (took cut : List ℕ → Type 0) → Type 0
EndsAs status.Done answer took cut = took answer.text × (answer.status ≡ status.Done)
EndsAs status.Stopped answer took cut = took answer.text × (answer.status ≡ status.Stopped)
EndsAs status.CheckNo answer took cut = took answer.text × (answer.status ≡ status.CheckNo)
EndsAs status.WriteFault answer took cut = cut answer.text
EndsAs _ answer took cut = ⊥

-- a command whose files these are calls for this refusal
abbrev pub IsCommandCause : Option FileMap → ℕ → ℕ → Command → Refusal → List ℕ → Type 0
IsCommandCause files before after command (refusal.Link fault) name = Comes files command (refuses fault name) × HasCause before after false
IsCommandCause files before after command refused name = IsNeedCause files before after command.needs refused name

-- what is run is an image
abbrev pub RunsImage : Outcome → Type 0
RunsImage (runs value entries cycles) = IsImage value
RunsImage _ = Unit {0}

-- the files serve the command, and its answer ended so
pub record IsRun (files : Option FileMap) (command : Command) (ended : Status) (took cut : List ℕ → Type 0) : Type 0 where
  pub answer : Answer
  pub served : IsAnswer files command answer
  pub sound : RunsImage served.outcome
  pub ends : EndsAs ended answer took cut
