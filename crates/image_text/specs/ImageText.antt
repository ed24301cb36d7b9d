-- The one text of an image: lines that end with LF (10).
use Rattle.std.specs.Prelude.{ℕ, zero, suc, ◌+◌, ◌==◌, if◌then◌else◌, Bool, List, [], ◌∷◌, ◌++◌, take, drop, codes}
use Rattle.std.specs.List.{list_all}
use Rattle.std.specs.Fmt.{decimal}
use Rattle.texts.specs.Hexadecimals.{hex_word, hex_key}
use Rattle.mod_layout.specs.declared.Section.{Section}
use Rattle.mod_layout.specs.declared.Module.{Module}
use Rattle.image_text.specs.Image.{Image}
use Rattle.image_text.specs.declared.numbers.TheConstants.{FIRST_ROW, ROW_COUNT}

-- a line, and the text behind it
abbrev pub line_before : List ℕ → List ℕ → List ℕ
line_before line rest = line ++ (10 ∷ rest)

-- ---- the lines

-- version 1 has room for 8 modules, version 2 for 32
abbrev pub first_line : ℕ → List ℕ
first_line room = if room == 8 then codes "sancus-image 1" else codes "sancus-image 2"

abbrev pub key_line : List ℕ → List ℕ
key_line key = codes "key " ++ hex_key key

abbrev pub handler_line : ℕ → List ℕ
handler_line sp = codes "handler " ++ hex_word sp

abbrev pub count_line : ℕ → List ℕ
count_line n = codes "modules " ++ decimal n

-- the ends of a section
abbrev pub section_words : Section → List ℕ
section_words s = hex_word s.start ++ (32 ∷ hex_word s.end)

abbrev pub module_line : Module → List ℕ
module_line m = codes "module " ++ (hex_word m.vendor ++ (32 ∷ (section_words m.text ++ (32 ∷ section_words m.ram))))

abbrev pub row_line : ℕ → List ℕ → List ℕ
row_line at row = codes "at " ++ (hex_word at ++ (32 ∷ hex_key row))

abbrev pub end_line : List ℕ
end_line = codes "end"

-- ---- the text

-- in version 2 alone, how many modules follow
abbrev pub count_text : ℕ → ℕ → List ℕ → List ℕ
count_text room n rest = if room == 8 then rest else line_before (count_line n) rest

-- a line for each module
abbrev pub modules_text : List Module → List ℕ → List ℕ
modules_text [] rest = rest
modules_text (m ∷ ms) rest = line_before (module_line m) (modules_text ms rest)

abbrev pub is_zero : List ℕ → Bool
is_zero row = list_all (λ b. b == 0) row

-- the line of a row, which is left out where all of it is 0
abbrev pub row_text : ℕ → List ℕ → List ℕ → List ℕ
row_text at row rest = if is_zero row then rest else line_before (row_line at row) rest

-- a line for each of this many rows of 16 bytes, from an address on
unfoldable pub rows_text : ℕ → ℕ → List ℕ → List ℕ → List ℕ
rows_text zero at memory rest = rest
rows_text (suc n) at memory rest = row_text at (take 16 memory) (rows_text n (at + 16) (drop 16 memory) rest)

-- the rows from the first on, and the end
abbrev pub memory_text : List ℕ → List ℕ
memory_text memory = rows_text ROW_COUNT FIRST_ROW (drop FIRST_ROW memory) (line_before end_line [])

-- what stands behind the key
abbrev pub text_after_key : Image → List ℕ
text_after_key i =
    line_before (handler_line i.handler_sp) (count_text i.table.room i.table.given (modules_text i.table.modules (memory_text i.memory)))

unfoldable pub image_text : Image → List ℕ
image_text i = line_before (first_line i.table.room) (line_before (key_line i.node_key) (text_after_key i))
