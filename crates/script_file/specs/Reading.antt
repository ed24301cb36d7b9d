-- What the text of a script gives: its lines, or the first refusal.
use Rattle.std.specs.Prelude.{ℕ, ◌+◌, List, [], ◌∷◌, Result, Ok, Err}
use Rattle.texts.specs.Lines.{lines_of}
use Rattle.texts.specs.Rows.{after_these}
use Rattle.written_machine.specs.declared.ScriptLine.{ScriptLine}
use Rattle.script_file.specs.declared.ScriptFault.{ScriptFault}
use Rattle.script_file.specs.declared.ScriptFault.TheVariants.{Line, Number}
use Rattle.script_file.specs.declared.line.LineFault.{LineFault}
use Rattle.script_file.specs.declared.line.LineFault.TheVariants.{Form, Bounds}
use Rattle.script_file.specs.Line.{form_of, checked}

-- line n, before what the lines after it give
abbrev pub from_line : ℕ → Result ScriptLine LineFault → Result (List ScriptLine) ScriptFault → Result (List ScriptLine) ScriptFault
from_line n (Ok line) rest = after_these (line ∷ []) rest
from_line n (Err Form) rest = Err (Line n)
from_line n (Err Bounds) rest = Err (Number n)

-- the lines from line n on
abbrev pub script_from : ℕ → List (List ℕ) → Result (List ScriptLine) ScriptFault
script_from n [] = Ok []
script_from n (text ∷ texts) = from_line n (checked (form_of text)) (script_from (n + 1) texts)

-- what a text gives, line by line from 1
unfoldable pub script_of : List ℕ → Result (List ScriptLine) ScriptFault
script_of bytes = script_from 1 (lines_of bytes)
