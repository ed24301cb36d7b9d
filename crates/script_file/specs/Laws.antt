-- The law of lines. It is what a function of this crate ensures.
use Rattle.std.specs.Result.{result_ok}
use Rattle.texts.specs.Laws.{IsReadExactly}
use Rattle.script_file.specs.Bounds.{IsLine}
use Rattle.script_file.specs.Line.{form_of, line_text, checked}

-- A text is taken as a line exactly where it is that line's text, with its numbers in their bounds.
abbrev pub ScriptLinesAreRead : Type 0
ScriptLinesAreRead = IsReadExactly (λ text. result_ok (checked (form_of text))) line_text IsLine
