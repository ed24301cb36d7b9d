-- What a call of a program gives.
use Rattle.std.specs.Prelude.{◌≡◌, ℕ, false, List, Option, Some, None, ◌⊎◌}
use Rattle.sm_io.specs.Faults.{HasCause}
use Rattle.sm_io.specs.Files.{FileMap}
use Rattle.cli_files.specs.declared.answers.Status.{Status}
use Rattle.cli_files.specs.declared.answers.Status.TheVariants as status
use Rattle.cli_files.specs.declared.answers.Refusal.{Refusal}
use Rattle.cli_files.specs.declared.answers.Refusal.TheVariants as refusal
use Rattle.cli_files.specs.Files.{IsFirstFault, IsReached}
use Rattle.cli_files.specs.Refusal.{is_read_fault, status_of, refusal_line}
use Rattle.cli_calls.specs.Command.{Answer, Command, Comes, refuses, IsAnswer}
use Rattle.cli_calls.specs.Runs.{EndsAs, IsRun}

-- what a call was given: the program's name, the command that its words are, the files where they are told, and their
-- count of faults before and after
pub record Call : Type 0 where
  pub program : List ℕ
  pub asked : Option Command
  pub files : Option FileMap
  pub before : ℕ
  pub after : ℕ

abbrev pub called : List ℕ → Option Command → Option FileMap → ℕ → ℕ → Call
called program asked files before after = record { program = program; asked = asked; files = files; before = before; after = after }

-- Answers

-- the words are a command that the files serve, no read failed, and its answer has this status and a text with P
pub record Serves (call : Call) (ended : Status) (P : List ℕ → Type 0) : Type 0 where
  pub command : Command
  pub answer : Answer
  pub asked : call.asked ≡ Some command
  pub served : IsAnswer call.files command answer
  pub quiet : HasCause call.before call.after false
  pub status : answer.status ≡ ended
  pub text : P answer.text

-- Refusals

-- the words and the files call for this refusal
abbrev pub IsCalledFor : Call → Refusal → List ℕ → Type 0
IsCalledFor call refusal.Usage name = call.asked ≡ None
IsCalledFor call (refusal.BadFile fault) name = (command : Command) × (call.asked ≡ Some command) × IsFirstFault call.files command.needs name fault
IsCalledFor call refusal.CannotRead name = (command : Command) × (call.asked ≡ Some command) × IsReached call.files command.needs name
IsCalledFor call (refusal.Link fault) name = (command : Command) × (call.asked ≡ Some command) × Comes call.files command (refuses fault name)
IsCalledFor call refusal.NoMemory name = Unit {0}

-- the refusal has its cause
abbrev pub IsCause : Call → Refusal → List ℕ → Type 0
IsCause call refused name = IsCalledFor call refused name × HasCause call.before call.after (is_read_fault refused)

-- some refusal has its cause, and this status, and its line has P
pub record Refuses (call : Call) (ended : Status) (P : List ℕ → Type 0) : Type 0 where
  pub refused : Refusal
  pub name : List ℕ
  pub status : status_of refused ≡ ended
  pub cause : IsCause call refused name
  pub line : P (refusal_line call.program refused name)

-- How a call ended

-- the command that the words are was answered so
pub record WasRun (call : Call) (ended : Status) (took cut : List ℕ → Type 0) : Type 0 where
  pub command : Command
  pub asked : call.asked ≡ Some command
  pub run : IsRun call.files command ended took cut
  pub quiet : HasCause call.before call.after false

-- the line of a refusal, which begins with the program's name, was taken, or cut off
abbrev pub TellsAs : List ℕ → Status → Refusal → List ℕ → (took cut : List ℕ → Type 0) → Type 0
TellsAs program ended refused name took cut =
    ((ended ≡ status_of refused) × took (refusal_line program refused name)) ⊎ ((ended ≡ status.WriteFault) × cut (refusal_line program refused name))

-- a refusal that has its cause was told so
pub record WasTold (call : Call) (ended : Status) (took cut : List ℕ → Type 0) : Type 0 where
  pub refused : Refusal
  pub name : List ℕ
  pub cause : IsCause call refused name
  pub tells : TellsAs call.program ended refused name took cut

-- one of the two, where the other sink is as it was
pub data Ended (call : Call) (ended : Status) (took cut told part : List ℕ → Type 0) (same_err same_out : Type 0) : Type 0 where
  was_run : WasRun call ended took cut → same_err → Ended call ended took cut told part same_err same_out
  was_told : WasTold call ended told part → same_out → Ended call ended took cut told part same_err same_out

-- Completeness

-- this status, or that of a fault outside or of want of memory
abbrev pub IsOrOutside : Status → Status → Type 0
IsOrOutside wanted status.ReadFault = Unit {0}
IsOrOutside wanted status.WriteFault = Unit {0}
IsOrOutside wanted status.NoMemory = Unit {0}
IsOrOutside wanted ended = ended ≡ wanted

-- what a command that its files serve is answered: its text ended so; or a sink failed within the line that was told;
-- or a read failed, or memory ran out
abbrev pub Completes : Status → Answer → (took cut : List ℕ → Type 0) (told : Type 0) → Type 0
Completes status.WriteFault answer took cut told = EndsAs status.WriteFault answer took cut ⊎ told
Completes status.ReadFault answer took cut told = Unit {0}
Completes status.NoMemory answer took cut told = Unit {0}
Completes ended answer took cut told = EndsAs ended answer took cut
