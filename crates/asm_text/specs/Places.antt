-- Where the lines of an accepted source stand, and what is written there.
use Rattle.std.specs.Prelude.{ℕ, ◌≡◌, ◌+◌, List, length, take, drop, flat_map, slice_get, Option, Some, Ok, IsSomeAnd, option_map}
use Rattle.insn_decode.specs.declared.insn.Insn.{Insn}
use Rattle.asm_line.specs.declared.statement.Field.{Field}
use Rattle.asm_line.specs.declared.statement.Statement.TheVariants.{Word, Code}
use Rattle.asm_text.specs.Assembly.{name_count, assembled}
use Rattle.asm_text.specs.Emission.{field_number}
use Rattle.sm_words.specs.Bytes.{word_bytes}
use Rattle.asm_line.specs.Encoding.{encoded_words, IsMeant}
use Rattle.asm_text.specs.Parts.{SectionValue, UnitValue}
use Rattle.asm_text.specs.Placing.{Placed, nowhere, last_head, placed_from}
use Rattle.asm_text.specs.Source.{SourceRead, source_read}

-- the statement of this number stands at the end of the last section of those before it
pub record StandsAt (s : SourceRead) (number section here : ℕ) : Type 0 where
  pub before : Placed
  pub placed : placed_from 1 (nowhere (name_count s)) (take number s.statements) ≡ Ok before
  pub last : section + 1 ≡ length before.heads
  pub size : option_map (λ h. h.size) (last_head before.heads) ≡ Some here

-- these bytes are in the unit where the statement of this number stands
pub record Writes (s : SourceRead) (u : UnitValue) (number : ℕ) (bytes : List ℕ) : Type 0 where
  pub section : ℕ
  pub here : ℕ
  pub home : SectionValue
  pub stands : StandsAt s number section here
  pub given : slice_get u.sections section ≡ Some home
  pub holds : take (length bytes) (drop here home.bytes) ≡ bytes

-- Each instruction of a source that is accepted has its words in the unit, with 0 for names, and they mean it.
abbrev pub CodeIsWritten : Type 0
CodeIsWritten = (text : List ℕ) (u : UnitValue) → assembled text ≡ Ok u →
    (number : ℕ) (insn : Insn) (first second : Option ℕ) → slice_get (source_read text).statements number ≡ Some (Code insn first second) →
    IsSomeAnd (encoded_words insn) (λ words. Writes (source_read text) u number (flat_map word_bytes words) × IsMeant insn words)

-- Each `word` of it has its number there, and 0 for a name.
abbrev pub WordsAreWritten : Type 0
WordsAreWritten = (text : List ℕ) (u : UnitValue) → assembled text ≡ Ok u →
    (number : ℕ) (field : Field ℕ) → slice_get (source_read text).statements number ≡ Some (Word field) →
    Writes (source_read text) u number (word_bytes (field_number field))
