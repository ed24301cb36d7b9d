-- `asm SOURCE`: the object of a program.
use Rattle.std.specs.Prelude.{List, [], ◌∷◌, Option, Some, None}
use Rattle.obj_write.specs.Object.{object_of}
use Rattle.cli_calls.specs.Words.{Text}
use Rattle.cli_files.specs.Files.{Held, a_unit, source_file, need}
use Rattle.cli_calls.specs.Command.{Outcome, done, nothing, Command}

abbrev pub asm_outcome : List Held → Outcome
asm_outcome (a_unit unit ∷ []) = done (object_of unit)
asm_outcome _ = nothing

abbrev pub asm_command : Text → Command
asm_command name = record { needs = need name source_file ∷ []; outcome = asm_outcome }

abbrev pub read_asm : List Text → Option Command
read_asm (name ∷ []) = Some (asm_command name)
read_asm _ = None
