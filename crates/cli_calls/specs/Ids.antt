-- The id of a module, as a word.
use Rattle.std.specs.Prelude.{ℕ, Option, Some, None, if◌then◌else◌, ◌==◌, option_and_then}
use Rattle.texts.specs.Decimals.{read_decimal}
use Rattle.cli_calls.specs.declared.ids.TheConstants.{MAX_ID}
use Rattle.cli_calls.specs.Words.{Text}

-- a module's id, which is not 0
abbrev pub id_of : Text → Option ℕ
id_of word = option_and_then (λ n. if n == 0 then None else Some n) (read_decimal MAX_ID word)
