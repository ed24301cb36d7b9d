-- What the code's own invariants say of: UnderTerms.
use Rattle.std.specs.Prelude.{◌≡◌, ℕ, List, [], Option, Some, None}
use Rattle.arm_balance.specs.declared.Arm.{Arm}
use Rattle.sm_io.specs.Files.{FileMap}
use Rattle.cli_files.specs.declared.answers.Status.{Status}
use Rattle.cli_files.specs.Files.{certificates, arms_file, need, Holds}
use Rattle.cli_calls.specs.Command.{Answer, Answers, Outcome}
use Rattle.cli_calls.specs.Runs.{EndsAs, RunsImage}
use Rattle.cli_calls.specs.Words.{Text}

-- the file of certificates holds these; with no file there are none
abbrev pub AreArmsOf : Option FileMap → Option Text → List Arm → Type 0
AreArmsOf files None arms = arms ≡ []
AreArmsOf files (Some name) arms = Holds files (need name arms_file) (certificates arms)

-- an outcome is told: its answer ended so
pub record EndsBy (outcome : Outcome) (ended : Status) (took cut : List ℕ → Type 0) : Type 0 where
  pub answer : Answer
  pub is : Answers outcome answer
  pub sound : RunsImage outcome
  pub ends : EndsAs ended answer took cut
