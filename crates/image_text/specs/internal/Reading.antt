-- What the code's own invariants say of: Reading.
use Rattle.std.specs.Prelude.{◌≡◌, ℕ, ◌+◌, ◌*◌, ◌≤◌, ◌<◌, ◌-◌, ◌%◌, ◌==◌, false, Bool, not, length, drop, replicate, slice_index, slice_range, List, [], ◌∷◌, ◌++◌, true, Option, Some, None}
use Rattle.texts.specs.Lines.{ended_lines, unended}
use Rattle.image_text.specs.declared.numbers.TheConstants.{BEFORE_ROWS, FIRST_ROW}
use Rattle.image_text.specs.declared.ImageFault.{ImageFault}
use Rattle.image_text.specs.Image.{AreNumbered}
use Rattle.image_text.specs.ImageText.{line_before, count_line, modules_text, memory_text, row_line, end_line, is_zero, rows_text}
use Rattle.image_text.specs.Refusal.{Spot, next_spot, has_form, bad_digit, digits_bytes, count_refusal, modules_refusal, rows_refusal, end_refusal, module_form, section_at, added}
use Rattle.mod_layout.specs.Table.{Table, empty_table, fault_of}
use Rattle.mod_layout.specs.Tables.{IsTable}
use Rattle.hex.specs.Hex.{IsBytes, encode_lower}

-- what is unread of a text, and where its next line stands
pub record Unread : Type 0 where
  pub rest : List ℕ
  pub spot : Spot

-- what a rule on the lines to come says of an unread text
abbrev pub on : Unread → (Spot → List (List ℕ) → List ℕ → Option ImageFault) → Option ImageFault
on u refusal = refusal u.spot (ended_lines u.rest) (unended u.rest)

-- one line was read
pub record ReadLine (old : Unread) (line : List ℕ) (new : Unread) : Type 0 where
  pub text : old.rest ≡ line ++ (10 ∷ new.rest)
  pub lines : ended_lines old.rest ≡ line ∷ ended_lines new.rest
  pub tail : unended old.rest ≡ unended new.rest
  pub spot : new.spot ≡ next_spot line old.spot

-- a line has this form, and its digits are digits
pub record HasLineForm (form line : List ℕ) : Type 0 where
  pub formed : has_form form line ≡ true
  pub digits : (at : ℕ) → bad_digit form line at ≡ None

-- at this place of a line so many bytes stand as digits
pub record CodedAt (line : List ℕ) (from n : ℕ) : Type 0 where
  pub within : from + 2 * n ≤ length line
  pub are_bytes : IsBytes (digits_bytes from n line)
  pub count : length (digits_bytes from n line) ≡ n
  pub text : slice_range line from (from + 2 * n) ≡ encode_lower (digits_bytes from n line)

-- a line was read: what the rules say of the text from it on is what they say from the next line on
pub record Passed (line : List ℕ) (before after : Spot → List (List ℕ) → List ℕ → Option ImageFault) (old new : Unread) : Type 0 where
  pub text : old.rest ≡ line_before line new.rest
  pub refusal : on old before ≡ on new after

-- the line that says how many modules follow, where there is one
abbrev pub count_part : Option ℕ → List ℕ → List ℕ
count_part None rest = rest
count_part (Some n) rest = line_before (count_line n) rest

-- version 1 has no such line, version 2 has one
abbrev pub IsCountOf : ℕ → Option ℕ → Type 0
IsCountOf room None = room ≡ 8
IsCountOf room (Some n) = room ≡ 32

pub record PassedCount (room : ℕ) (due : Option ℕ) (old new : Unread) : Type 0 where
  pub kind : IsCountOf room due
  pub text : old.rest ≡ count_part due new.rest
  pub refusal : on old (count_refusal room) ≡ on new (modules_refusal (empty_table room) due)

-- as many modules as were due
abbrev pub IsGivenCount : Option ℕ → ℕ → Type 0
IsGivenCount None given = Unit {0}
IsGivenCount (Some n) given = given ≡ n

pub record PassedModules (room : ℕ) (due : Option ℕ) (table : Table) (old new : Unread) : Type 0 where
  pub text : old.rest ≡ modules_text table.modules new.rest
  pub refusal : on old (modules_refusal (empty_table room) due) ≡ on new (rows_refusal BEFORE_ROWS)
  pub table_ok : IsTable table
  pub room_is : table.room ≡ room
  pub numbered : AreNumbered 1 table.modules
  pub all_held : length table.modules ≡ table.given
  pub count : IsGivenCount due table.given

-- the rest of a text is that of a memory
pub record PassedMemory (memory : List ℕ) (old : Unread) : Type 0 where
  pub text : old.rest ≡ memory_text memory
  pub full : length memory ≡ 65536
  pub are_bytes : IsBytes memory
  pub low : (a : ℕ) → a < FIRST_ROW → slice_index memory a ≡ 0

-- whether the next line should be a module's
abbrev pub due_next : Option ℕ → List (List ℕ) → Bool
due_next None [] = false
due_next None (line ∷ more) = has_form module_form line
due_next (Some n) lines = not (n == 0)

abbrev pub head_has_form : List ℕ → List (List ℕ) → Bool
head_has_form form [] = false
head_has_form form (line ∷ more) = has_form form line

-- a module's line was read, and the table took the module
pub record AddsModule (old new : Unread) (t u : Table) : Type 0 where
  pub line : List ℕ
  pub read : ReadLine old line new
  pub form : HasLineForm module_form line
  pub taken : fault_of t (section_at 12 line) (section_at 22 line) ≡ None
  pub table : u ≡ added t line

-- how many modules are left of those that were due
abbrev pub IsLeft : Option ℕ → Option ℕ → ℕ → Type 0
IsLeft None None given = Unit {0}
IsLeft None (Some k) given = ⊥
IsLeft (Some n) None given = ⊥
IsLeft (Some n) (Some k) given = k + given ≡ n

-- the modules so far have the lines so far
pub record ModulesSoFar (room : ℕ) (due : Option ℕ) (start : Unread) (table : Table) (now : Unread) (left : Option ℕ) : Type 0 where
  pub table_ok : IsTable table
  pub room_is : table.room ≡ room
  pub all_held : length table.modules ≡ table.given
  pub numbered : AreNumbered 1 table.modules
  pub text : start.rest ≡ modules_text table.modules now.rest
  pub refusal : on start (modules_refusal (empty_table room) due) ≡ on now (modules_refusal table left)
  pub count : IsLeft due left table.given

-- a row's line was read: memory has zeros up to its address, and then the row
pub record AddsRow (last at : ℕ) (old new : Unread) (memory grown : List ℕ) : Type 0 where
  pub row : List ℕ
  pub sixteen : length row ≡ 16
  pub are_bytes : IsBytes row
  pub small : at < 65536
  pub filled : is_zero row ≡ false
  pub even : at % 16 ≡ 0
  pub above : last < at
  pub text : old.rest ≡ line_before (row_line at row) new.rest
  pub refusal : on old (rows_refusal last) ≡ on new (rows_refusal at)
  pub memory_is : grown ≡ (memory ++ replicate (at - length memory) 0) ++ row

pub record AtEnd (last : ℕ) (old new : Unread) (memory grown : List ℕ) : Type 0 where
  pub text : old.rest ≡ line_before end_line new.rest
  pub refusal : on old (rows_refusal last) ≡ on new end_refusal
  pub same : grown ≡ memory

abbrev pub NextRow : ℕ → Option ℕ → Unread → Unread → List ℕ → List ℕ → Type 0
NextRow last None old new memory grown = AtEnd last old new memory grown
NextRow last (Some at) old new memory grown = AddsRow last at old new memory grown

-- the rows so far
pub record RowsSoFar (rest : List ℕ) (last : ℕ) (memory left : List ℕ) : Type 0 where
  pub rows : ℕ
  pub size : length memory ≡ FIRST_ROW + 16 * rows
  pub last_is : last + 16 ≡ FIRST_ROW + 16 * rows
  pub low : (a : ℕ) → a < FIRST_ROW → slice_index memory a ≡ 0
  pub are_bytes : IsBytes memory
  pub small : last < 65536
  pub text : rest ≡ rows_text rows FIRST_ROW (drop FIRST_ROW memory) left
