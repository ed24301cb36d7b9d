-- The forms of a script's lines, with numbers of any size, and which of their texts are lines.
use Rattle.std.specs.Prelude.{ℕ, Bool, ◌&&◌, ◌==◌, nat_le, if◌then◌else◌, List, ◌++◌, length, take, drop, slice_index, Option, Some, None, option_map, Result, Ok, Err, codes}
use Rattle.std.specs.Fmt.{decimal}
use Rattle.std.specs.Str.{bytes_eq}
use Rattle.texts.specs.Decimals.{is_decimal, number_in}
use Rattle.texts.specs.Hexadecimals.{hex_word, read_hex_word}
use Rattle.written_machine.specs.declared.ScriptLine.{ScriptLine}
use Rattle.written_machine.specs.declared.ScriptLine.TheVariants.{Go, Until, Regs, Mem, Mark, Back, Last}
use Rattle.script_file.specs.declared.line.Operands.{Operands}
use Rattle.script_file.specs.declared.line.LineFault.{LineFault}
use Rattle.script_file.specs.declared.line.LineFault.TheVariants.{Form, Bounds}
use Rattle.script_file.specs.Bounds.{is_bounded}

-- ---- what stands in a line

-- a decimal of any size
abbrev pub read_any_decimal : List ℕ → Option ℕ
read_any_decimal text = if is_decimal text then Some (number_in text) else None

abbrev pub both_operands : Option ℕ → Option ℕ → Option Operands
both_operands (Some addr) (Some n) = Some (record { addr = addr; number = n })
both_operands _ _ = None

-- four digits, a space and a decimal
unfoldable pub operands_of : List ℕ → Option Operands
operands_of text = if nat_le 5 (length text) && slice_index text 4 == 32 then both_operands (read_hex_word (take 4 text)) (read_any_decimal (drop 5 text)) else None

-- ---- the forms, by what stands behind the name

abbrev pub go_form : List ℕ → Option ScriptLine
go_form text = option_map Go (read_any_decimal text)

abbrev pub until_form : List ℕ → Option ScriptLine
until_form text = option_map (λ a. Until a.addr a.number) (operands_of text)

abbrev pub mem_form : List ℕ → Option ScriptLine
mem_form text = option_map (λ a. Mem a.addr a.number) (operands_of text)

abbrev pub back_form : List ℕ → Option ScriptLine
back_form text = option_map Back (read_any_decimal text)

abbrev pub last_form : List ℕ → Option ScriptLine
last_form text = option_map (λ a. Last a.addr a.number) (operands_of text)

abbrev pub bare_form : List ℕ → Option ScriptLine
bare_form text = if bytes_eq text (codes "regs") then Some Regs else (if bytes_eq text (codes "mark") then Some Mark else None)

abbrev pub begins_with : List ℕ → List ℕ → Bool
begins_with text front = bytes_eq (take (length front) text) front

-- the line that a text has the form of
unfoldable pub form_of : List ℕ → Option ScriptLine
form_of text =
    if begins_with text (codes "go ") then go_form (drop 3 text)
    else (if begins_with text (codes "until ") then until_form (drop 6 text)
    else (if begins_with text (codes "mem ") then mem_form (drop 4 text)
    else (if begins_with text (codes "back ") then back_form (drop 5 text)
    else (if begins_with text (codes "last ") then last_form (drop 5 text)
    else bare_form text))))

-- ---- the text of a line

abbrev pub line_text : ScriptLine → List ℕ
line_text (Go n) = codes "go " ++ decimal n
line_text (Until addr n) = codes "until " ++ hex_word addr ++ codes " " ++ decimal n
line_text Regs = codes "regs"
line_text (Mem addr n) = codes "mem " ++ hex_word addr ++ codes " " ++ decimal n
line_text Mark = codes "mark"
line_text (Back k) = codes "back " ++ decimal k
line_text (Last addr k) = codes "last " ++ hex_word addr ++ codes " " ++ decimal k

-- ---- the bounds

-- a line of a form is refused where its numbers are out of bounds
abbrev pub checked : Option ScriptLine → Result ScriptLine LineFault
checked None = Err Form
checked (Some l) = if is_bounded l then Ok l else Err Bounds
