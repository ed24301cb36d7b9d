-- What a call of `serve` is given.
use Rattle.std.specs.Prelude.{ℕ, List, Option, codes}
use Rattle.sm_io.specs.Files.{FileMap}
use Rattle.cli_calls.specs.Calls.{Call, called}
use Rattle.cli_calls.specs.CommandNames.{command_of}
use Rattle.sm_cli.specs.CommandLine.{sancus_commands}

-- its words, the files where they are told, and their count of faults before and after
abbrev pub call_of : List (List ℕ) → Option FileMap → ℕ → ℕ → Call
call_of words files before after = called (codes "sancus") (command_of sancus_commands words) files before after
