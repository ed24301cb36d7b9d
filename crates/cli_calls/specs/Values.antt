-- Values of a command's words.
use Rattle.std.specs.Prelude.{ℕ, Option, Some, None, codes, if◌then◌else◌}
use Rattle.std.specs.Str.{bytes_eq}
use Rattle.texts.specs.Decimals.{read_decimal}
use Rattle.cli_calls.specs.Words.{Text}
use Rattle.cli_calls.specs.declared.values.TheConstants.{MAX_CYCLES}

-- the file that a word names; `-` names none
abbrev pub file_named : Text → Option Text
file_named word = if bytes_eq word (codes "-") then None else Some word

-- a number of cycles
abbrev pub read_cycles : Text → Option ℕ
read_cycles word = read_decimal MAX_CYCLES word
