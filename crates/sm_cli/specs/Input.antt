-- What a call's words and files ask for.
use Rattle.std.specs.Prelude.{◌≡◌, List, Option, Some}
use Rattle.sm_io.specs.Files.{FileMap}
use Rattle.cli_calls.specs.Command.{Command, Comes, Outcome}
use Rattle.cli_calls.specs.CommandNames.{command_of}
use Rattle.cli_calls.specs.Words.{Text}
use Rattle.sm_cli.specs.CommandLine.{sancus_commands}

-- the files are told, the words are a command that they serve, and this comes of it
pub record IsInput (words : List Text) (files : Option FileMap) (outcome : Outcome) : Type 0 where
  pub map : FileMap
  pub told : files ≡ Some map
  pub command : Command
  pub asked : command_of sancus_commands words ≡ Some command
  pub comes : Comes (Some map) command outcome
