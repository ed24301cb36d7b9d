-- What the bytes of one file come to.
use Rattle.std.specs.Prelude.{List, ℕ}
use Rattle.cli_files.specs.declared.answers.Refusal.{Refusal}
use Rattle.cli_files.specs.declared.answers.Refusal.TheVariants as refusal
use Rattle.cli_files.specs.Files.{Kind, IsRefused}

-- bytes are none of this kind, or there was no memory
abbrev pub IsContentRefusal : Kind → List ℕ → Refusal → Type 0
IsContentRefusal kind bytes (refusal.BadFile fault) = IsRefused kind bytes fault
IsContentRefusal kind bytes refusal.NoMemory = Unit {0}
IsContentRefusal kind bytes _ = ⊥
