-- Where the jumps of an accepted source lead.
use Rattle.std.specs.Prelude.{ℕ, ◌≡◌, ◌+◌, ◌-◌, ◌*◌, ◌%◌, ◌≤◌, List, length, take, drop, slice_get, Some, Ok, All, Contains, ℤ, pos, negsuc}
use Rattle.insn_decode.specs.declared.insn.Condition.{Condition}
use Rattle.insn_decode.specs.declared.insn.Insn.TheVariants.{Jump as JumpInsn}
use Rattle.insn_decode.specs.Means.{Means}
use Rattle.asm_text.specs.declared.TheConstants.{MAX_SOURCE}
use Rattle.asm_line.specs.declared.statement.Statement.TheVariants.{Jump}
use Rattle.asm_text.specs.Assembly.{assembled}
use Rattle.sm_words.specs.Bytes.{word_bytes}
use Rattle.asm_text.specs.Parts.{SectionValue, SymbolValue, UnitValue}
use Rattle.asm_text.specs.Places.{StandsAt}
use Rattle.asm_text.specs.Source.{SourceRead, source_read}

-- where a jump at this place leads
abbrev pub target_of : ℕ → ℤ → ℕ
target_of here (pos n) = here + 2 + 2 * n
target_of here (negsuc n) = here + 2 - 2 * (n + 1)

-- The word at the statement's place in the unit means a jump, which leads to the symbol of this name in the same section.
pub record LeadsToLabel (s : SourceRead) (u : UnitValue) (number : ℕ) (condition : Condition) (name : ℕ) : Type 0 where
  pub section : ℕ
  pub here : ℕ
  pub word : ℕ
  pub offset : ℤ
  pub home : SectionValue
  pub label : SymbolValue
  pub stands : StandsAt s number section here
  pub given : slice_get u.sections section ≡ Some home
  pub holds : take 2 (drop here home.bytes) ≡ word_bytes word
  pub means : (w1 w2 : ℕ) → Means word w1 w2 (JumpInsn condition offset) 1
  pub symbol : Contains u.symbols label
  pub named : slice_get s.tables.names name ≡ Some label.name
  pub beside : label.home ≡ Some section
  pub reached : label.value ≡ target_of here offset

-- Each jump of a source that is accepted leads to its label.
abbrev pub JumpsReachLabels : Type 0
JumpsReachLabels = (text : List ℕ) (u : UnitValue) → length text ≤ MAX_SOURCE → assembled text ≡ Ok u →
    (number : ℕ) (condition : Condition) (name : ℕ) → slice_get (source_read text).statements number ≡ Some (Jump condition name) →
    LeadsToLabel (source_read text) u number condition name

-- The labels of a source that is accepted are even.
abbrev pub LabelsAreEven : Type 0
LabelsAreEven = (text : List ℕ) (u : UnitValue) → assembled text ≡ Ok u → All (λ s. s.value % 2 ≡ 0) u.symbols
