-- Why files that are needed do not serve.
use Rattle.std.specs.Prelude.{ℕ, true, false, List, Option}
use Rattle.sm_io.specs.Faults.{HasCause}
use Rattle.sm_io.specs.Files.{FileMap}
use Rattle.cli_files.specs.declared.answers.Refusal.{Refusal}
use Rattle.cli_files.specs.declared.answers.Refusal.TheVariants as refusal
use Rattle.cli_files.specs.Files.{Need, IsFirstFault, IsReached}

-- these files that are needed call for this refusal
abbrev pub IsNeedCause : Option FileMap → ℕ → ℕ → List Need → Refusal → List ℕ → Type 0
IsNeedCause files before after needs refusal.Usage name = ⊥
IsNeedCause files before after needs (refusal.BadFile fault) name = IsFirstFault files needs name fault × HasCause before after false
IsNeedCause files before after needs refusal.CannotRead name = IsReached files needs name × HasCause before after true
IsNeedCause files before after needs (refusal.Link fault) name = ⊥
IsNeedCause files before after needs refusal.NoMemory name = HasCause before after false
