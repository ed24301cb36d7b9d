-- Why bytes are no image's text: the first line that does not serve.
use Rattle.std.specs.Prelude.{ℕ, zero, suc, ◌+◌, ◌-◌, ◌*◌, ◌%◌, ◌==◌, nat_lt, if◌then◌else◌, Bool, true, false, not, ◌&&◌, List, [], ◌∷◌, length, drop, nat_eq, bytes_eq, slice_index, codes, Option, Some, None, option_map}
use Rattle.std.specs.List.{starts_with}
use Rattle.std.specs.Option.{option_map_or, option_or}
use Rattle.texts.specs.Decimals.{read_decimal}
use Rattle.texts.specs.Hexadecimals.{is_hex_digit}
use Rattle.mod_layout.specs.declared.Section.{Section}
use Rattle.mod_layout.specs.declared.TableFault.{TableFault}
use Rattle.mod_layout.specs.Table.{Table, fault_of, with_module, empty_table}
use Rattle.texts.specs.Lines.{ended_lines, unended}
use Rattle.image_text.specs.declared.numbers.TheConstants.{BEFORE_ROWS, FIRST_ROW, MAX_COUNT, MAX_VERSION}
use Rattle.image_text.specs.declared.ImageFault.{ImageFault}
use Rattle.image_text.specs.declared.ImageFault.TheVariants.{Line, Digit, Twice, Table as TableRefuses, Version}
use Rattle.image_text.specs.ImageText.{end_line, is_zero}

-- ---- lines

-- where a line stands: its number, counted from 1, and its offset in the file
pub record Spot : Type 0 where
  pub number : ℕ
  pub at : ℕ

-- where the line after this one stands
abbrev pub next_spot : List ℕ → Spot → Spot
next_spot line s = record { number = s.number + 1; at = s.at + length line + 1 }

abbrev pub line_fault : Spot → Option ImageFault
line_fault s = Some (Line s.number)

-- ---- forms, in which `#` stands for a digit

abbrev pub key_form : List ℕ
key_form = codes "key ################################"

abbrev pub handler_form : List ℕ
handler_form = codes "handler ####"

abbrev pub module_form : List ℕ
module_form = codes "module #### #### #### #### ####"

abbrev pub row_form : List ℕ
row_form = codes "at #### ################################"

-- a digit's place takes any byte but a space here; any other place takes its own byte
abbrev pub fits : ℕ → ℕ → Bool
fits mark b = if mark == 35 then not (b == 32) else b == mark

-- whether the words, the spaces and the length of a line are those of the form
abbrev pub has_form : List ℕ → List ℕ → Bool
has_form [] [] = true
has_form [] (b ∷ line) = false
has_form (mark ∷ form) [] = false
has_form (mark ∷ form) (b ∷ line) = fits mark b && has_form form line

-- a digit's place that has no digit
abbrev pub is_bad : ℕ → ℕ → Bool
is_bad mark b = (mark == 35) && not (is_hex_digit b)

-- the offset of the first byte that should be a digit and is none, of a line that begins at this offset
abbrev pub bad_digit : List ℕ → List ℕ → ℕ → Option ℕ
bad_digit [] line at = None
bad_digit (mark ∷ form) [] at = None
bad_digit (mark ∷ form) (b ∷ line) at = if is_bad mark b then Some at else bad_digit form line (at + 1)

abbrev pub digit_or : Option ℕ → Option ImageFault → Option ImageFault
digit_or bad rest = option_or (option_map Digit bad) rest

-- a line that should have this form: Line where it has not, Digit where a digit is none, and else what comes after
abbrev pub formed : List ℕ → Spot → List ℕ → Option ImageFault → Option ImageFault
formed form s line rest = if has_form form line then digit_or (bad_digit form line s.at) rest else line_fault s

-- ---- values

-- the value of a digit, `0` to `9` or `a` to `f`
abbrev pub digit_value : ℕ → ℕ
digit_value b = if nat_lt b 58 then b - 48 else b - 87

-- the byte of the two digits at a place of a line
unfoldable pub digits_byte : ℕ → List ℕ → ℕ
digits_byte from line = 16 * digit_value (slice_index line from) + digit_value (slice_index line (from + 1))

-- the bytes of so many pairs of digits from a place of a line on
unfoldable pub digits_bytes : ℕ → ℕ → List ℕ → List ℕ
digits_bytes from zero line = []
digits_bytes from (suc count) line = digits_byte from line ∷ digits_bytes (from + 2) count line

-- the word of the four digits at a place of a line
unfoldable pub digits_word : ℕ → List ℕ → ℕ
digits_word from line = 256 * digits_byte from line + digits_byte (from + 2) line

abbrev pub section_at : ℕ → List ℕ → Section
section_at from line = record { start = digits_word from line; end = digits_word (from + 5) line }

-- how many modules a line announces
abbrev pub announced_count : List ℕ → Option ℕ
announced_count line = if starts_with nat_eq line (codes "modules ") then read_decimal MAX_COUNT (drop 8 line) else None

-- ---- the refusals, from the last line back to the first

-- nothing stands behind the line `end`
abbrev pub end_refusal : Spot → List (List ℕ) → List ℕ → Option ImageFault
end_refusal s [] [] = None
end_refusal s [] (b ∷ tail) = line_fault s
end_refusal s (line ∷ more) tail = line_fault s

-- a row: its address is a multiple of 16, from the first row's up, it is not all zeros, and it stands above the row before it
abbrev pub is_row : ℕ → ℕ → List ℕ → Bool
is_row last a row = (a % 16 == 0) && not (nat_lt a FIRST_ROW) && not (is_zero row) && not (nat_lt a last)

abbrev pub row_or : ℕ → Spot → List ℕ → Option ImageFault → Option ImageFault
row_or last s line rest =
    if is_row last (digits_word 3 line) (digits_bytes 8 16 line)
    then (if digits_word 3 line == last then Some (Twice (digits_word 3 line)) else rest)
    else line_fault s

-- the rows and the end; `last` is the address of the row before, at first that of the row below all
abbrev pub rows_refusal : ℕ → Spot → List (List ℕ) → List ℕ → Option ImageFault
rows_refusal last s [] tail = line_fault s
rows_refusal last s (line ∷ more) tail =
    if bytes_eq line end_line
    then end_refusal (next_spot line s) more tail
    else formed row_form s line (row_or last s line (rows_refusal (digits_word 3 line) (next_spot line s) more tail))

-- the next module, where the table takes it
abbrev pub taken_or : Option TableFault → ℕ → Option ImageFault → Option ImageFault
taken_or refused id rest = option_or (option_map (TableRefuses id) refused) rest

-- the table with the module of a line
abbrev pub added : Table → List ℕ → Table
added t line = with_module t (digits_word 7 line) (section_at 12 line) (section_at 22 line)

-- whether the next line should be a module's: in version 2 so many are due, in version 1 the line's form tells
abbrev pub is_due : Option ℕ → List ℕ → Bool
is_due None line = has_form module_form line
is_due (Some n) line = not (n == 0)

abbrev pub one_less : Option ℕ → Option ℕ
one_less due = option_map (λ n. n - 1) due

abbrev pub modules_refusal : Table → Option ℕ → Spot → List (List ℕ) → List ℕ → Option ImageFault
modules_refusal t due s [] tail = line_fault s
modules_refusal t due s (line ∷ more) tail =
    if is_due due line
    then formed module_form s line (taken_or (fault_of t (section_at 12 line) (section_at 22 line)) (t.given + 1) (modules_refusal (added t line) (one_less due) (next_spot line s) more tail))
    else rows_refusal BEFORE_ROWS s (line ∷ more) tail

abbrev pub counted_or_line : Option ℕ → Spot → Option ImageFault → Option ImageFault
counted_or_line None s rest = line_fault s
counted_or_line (Some n) s rest = rest

-- in version 2 alone, the number of modules
abbrev pub count_refusal : ℕ → Spot → List (List ℕ) → List ℕ → Option ImageFault
count_refusal room s lines tail = if room == 8 then modules_refusal (empty_table 8) None s lines tail else announced s lines tail
  where
    announced : Spot → List (List ℕ) → List ℕ → Option ImageFault
    announced s [] tail = line_fault s
    announced s (line ∷ more) tail = counted_or_line (announced_count line) s (modules_refusal (empty_table 32) (announced_count line) (next_spot line s) more tail)

-- an even start of the handlers' stack
abbrev pub handler_refusal : ℕ → Spot → List (List ℕ) → List ℕ → Option ImageFault
handler_refusal room s [] tail = line_fault s
handler_refusal room s (line ∷ more) tail =
    formed handler_form s line (if digits_word 8 line % 2 == 0 then count_refusal room (next_spot line s) more tail else line_fault s)

abbrev pub key_refusal : ℕ → Spot → List (List ℕ) → List ℕ → Option ImageFault
key_refusal room s [] tail = line_fault s
key_refusal room s (line ∷ more) tail = formed key_form s line (handler_refusal room (next_spot line s) more tail)

abbrev pub version_or_line : Option ℕ → Spot → Option ImageFault
version_or_line version s = Some (option_map_or Version version (Line s.number))

-- a first line that is none of versions 1 and 2: Version where it is one of another version
abbrev pub version_refusal : Spot → List ℕ → Option ImageFault
version_refusal s line =
    if starts_with nat_eq line (codes "sancus-image ")
    then version_or_line (read_decimal MAX_VERSION (drop 13 line)) s
    else line_fault s

abbrev pub first_refusal : Spot → List (List ℕ) → List ℕ → Option ImageFault
first_refusal s [] tail = line_fault s
first_refusal s (line ∷ more) tail =
    if bytes_eq line (codes "sancus-image 1") then key_refusal 8 (next_spot line s) more tail
    else if bytes_eq line (codes "sancus-image 2") then key_refusal 32 (next_spot line s) more tail
    else version_refusal s line

-- the refusal of a text, or none
unfoldable pub refusal_of : List ℕ → Option ImageFault
refusal_of bytes = first_refusal record { number = 1; at = 0 } (ended_lines bytes) (unended bytes)
