-- The text of what a refusal names.
use Rattle.std.specs.Prelude.{ℕ, List, string_bytes}
use Rattle.cli_files.specs.declared.answers.Name.{Name}
use Rattle.cli_files.specs.declared.answers.Name.TheVariants.{Word, Symbol}

abbrev pub name_text : Name → List ℕ
name_text (Word word) = word.now
name_text (Symbol name) = string_bytes name
