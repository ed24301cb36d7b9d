-- What the sections of an accepted source hold, line by line.
use Rattle.std.specs.Prelude.{ℕ, ◌≡◌, Bool, true, false, List, [], ◌∷◌, length, map, flat_map, if◌then◌else◌, Some, Ok, All}
use Rattle.asm_line.specs.declared.statement.Statement.{Statement}
use Rattle.asm_line.specs.declared.statement.Statement.TheVariants.{Section, Word, Jump, Code}
use Rattle.asm_text.specs.Assembly.{assembled}
use Rattle.asm_text.specs.Emission.{field_number}
use Rattle.sm_words.specs.Bytes.{word_bytes}
use Rattle.asm_line.specs.Encoding.{code_bytes}
use Rattle.asm_text.specs.Parts.{SectionValue, UnitValue}
use Rattle.asm_text.specs.Source.{source_read}

-- a line, and what it puts into its section
pub record Line : Type 0 where
  pub statement : Statement ℕ
  pub bytes : List ℕ

-- an instruction puts its words, with 0 for names, a number its word, a jump one word, and another line nothing
abbrev pub PutsBytes : Statement ℕ → List ℕ → Type 0
PutsBytes (Code insn first second) bytes = code_bytes insn ≡ Some bytes
PutsBytes (Word field) bytes = bytes ≡ word_bytes (field_number field)
PutsBytes (Jump condition target) bytes = length bytes ≡ 2
PutsBytes _ bytes = bytes ≡ []

abbrev pub begins_section : Statement ℕ → Bool
begins_section (Section name kind) = true
begins_section _ = false

-- the lines before the next section
abbrev pub up_to_section : List Line → List Line
up_to_section [] = []
up_to_section (l ∷ ls) = if begins_section l.statement then [] else l ∷ up_to_section ls

-- the lines of each section, in order
abbrev pub by_section : List Line → List (List Line)
by_section [] = []
by_section (l ∷ ls) = if begins_section l.statement then up_to_section ls ∷ by_section ls else by_section ls

-- what lines put, one after another
abbrev pub bytes_in_order : List Line → List ℕ
bytes_in_order lines = flat_map (λ l. l.bytes) lines

-- these statements put something each, and the sections hold just that
pub record HoldLines (sections : List SectionValue) (statements : List (Statement ℕ)) : Type 0 where
  pub lines : List Line
  pub are : map (λ l. l.statement) lines ≡ statements
  pub put : All (λ l. PutsBytes l.statement l.bytes) lines
  pub in_order : map (λ s. s.bytes) sections ≡ map bytes_in_order (by_section lines)

-- The bytes of a section are those of its lines in their order, with nothing between them and nothing after.
abbrev pub SectionsAreLines : Type 0
SectionsAreLines = (text : List ℕ) (u : UnitValue) → assembled text ≡ Ok u → HoldLines u.sections (source_read text).statements
