-- The bytes of the sections, line by line and without a gap, and the relocations; or the first jump that is refused.
use Rattle.std.specs.Prelude.{ℕ, ◌+◌, ◌-◌, ◌*◌, ◌/◌, ◌==◌, nat_le, if◌then◌else◌, List, [], ◌∷◌, ◌++◌, length, slice_index_or, slice_get, slice_set, Option, Some, None, option_map, option_and_then, ok_or, Result, Ok, Err, ℤ, pos, ◌-ℤ◌}
use Rattle.sm_words.specs.Bytes.{word_bytes}
use Rattle.insn_decode.specs.declared.insn.Condition.{Condition}
use Rattle.insn_decode.specs.declared.insn.Insn.TheVariants.{Two, One, Jump as JumpInsn}
use Rattle.insn_decode.specs.declared.insn.Operand.{Operand}
use Rattle.insn_decode.specs.Code.{words_of as words_in}
use Rattle.asm_text.specs.declared.placing.Spot.{Spot}
use Rattle.asm_line.specs.declared.statement.Field.{Field}
use Rattle.asm_line.specs.declared.statement.Field.TheVariants.{Number, Name}
use Rattle.asm_line.specs.declared.statement.Statement.{Statement}
use Rattle.asm_line.specs.declared.statement.Statement.TheVariants.{Section, Label, Global, Word, Space, Jump, Code}
use Rattle.asm_text.specs.declared.unit.AsmFault.{AsmFault}
use Rattle.asm_text.specs.declared.unit.AsmFault.TheVariants.{Line, Place, NoLabel, Far}
use Rattle.asm_text.specs.declared.unit.AsmRelocation.{AsmRelocation}
use Rattle.asm_line.specs.declared.statement.SectionKind.{SectionKind}
use Rattle.asm_line.specs.Encoding.{code_bytes}
use Rattle.asm_text.specs.Parts.{SectionValue}
use Rattle.asm_text.specs.Placing.{spot_of, unrefused}
use Rattle.asm_line.specs.Statements.{statement_size}

-- the names of the sections, and of each name where its label stands, and the place of its symbol
pub record Meanings : Type 0 where
  pub sections : List (List ℕ)
  pub spots : List (Option Spot)
  pub symbols : List (Option ℕ)

-- the sections and the relocations so far
pub record Emitted : Type 0 where
  pub sections : List SectionValue
  pub relocations : List AsmRelocation

abbrev pub nothing : Emitted
nothing = record { sections = []; relocations = [] }

-- ---- jumps

-- the offset in words of a jump at `here`, and so to `there`, counted from the next word
abbrev pub reach : ℕ → ℕ → ℤ
reach here there = if nat_le (here + 2) there then pos ((there - (here + 2)) / 2) else (pos 0 -ℤ pos ((here + 2 - there) / 2))

abbrev pub jump_over : ℕ → Condition → ℤ → Result (List ℕ) AsmFault
jump_over n condition offset = ok_or (code_bytes (JumpInsn condition offset)) (Far n offset)

-- the jump of line n, at `here` in a section, to the spot of its name
abbrev pub jump_bytes : ℕ → ℕ → ℕ → Condition → Option Spot → Result (List ℕ) AsmFault
jump_bytes n section here condition None = Err (NoLabel n)
jump_bytes n section here condition (Some spot) =
    if spot.section == section then jump_over n condition (reach here spot.offset) else Err (NoLabel n)

-- ---- the bytes of a statement; an instruction without words is refused, as where its line is read

abbrev pub field_number : Field ℕ → ℕ
field_number (Number n) = n
field_number (Name name) = 0

abbrev pub statement_bytes : Meanings → ℕ → ℕ → ℕ → Statement ℕ → Result (List ℕ) AsmFault
statement_bytes m n section here (Word field) = Ok (word_bytes (field_number field))
statement_bytes m n section here (Jump condition target) = jump_bytes n section here condition (spot_of m.spots target)
statement_bytes m n section here (Code insn first second) = ok_or (code_bytes insn) (Line n)
statement_bytes m n section here (Space size) = Ok []
statement_bytes m n section here (Section name kind) = Ok []
statement_bytes m n section here (Label name) = Ok []
statement_bytes m n section here (Global name) = Ok []

-- ---- its relocations

abbrev pub relocation_at : ℕ → ℕ → Option ℕ → List AsmRelocation
relocation_at section offset None = []
relocation_at section offset (Some symbol) = (record { section = section; offset = offset; symbol = symbol }) ∷ []

abbrev pub relocation_if : Meanings → ℕ → ℕ → Option ℕ → List AsmRelocation
relocation_if m section offset name = relocation_at section offset (option_and_then (λ n. slice_index_or m.symbols n None) name)

-- the offset of the word of a second operand after this one, from the start of the instruction
abbrev pub second_word : Operand → ℕ
second_word first = 2 + 2 * words_in first

abbrev pub statement_relocations : Meanings → ℕ → ℕ → Statement ℕ → List AsmRelocation
statement_relocations m section here (Word (Name name)) = relocation_if m section here (Some name)
statement_relocations m section here (Code (Two op w s d) first second) =
    relocation_if m section (here + 2) first ++ relocation_if m section (here + second_word s) second
statement_relocations m section here (Code (One op w a) first second) = relocation_if m section (here + 2) first
statement_relocations m section here _ = []

-- ---- line by line

abbrev pub grown : SectionValue → ℕ → List ℕ → SectionValue
grown s size bytes = record { name = s.name; kind = s.kind; size = s.size + size; bytes = s.bytes ++ bytes }

-- a statement in the last section, which is this one
abbrev pub with_statement : Meanings → Emitted → SectionValue → Statement ℕ → Result (List ℕ) AsmFault → Result Emitted AsmFault
with_statement m e last s given = unrefused given (λ bytes. Ok (record {
  sections = slice_set e.sections (length e.sections - 1) (grown last (statement_size s) bytes);
  relocations = e.relocations ++ statement_relocations m (length e.sections - 1) last.size s;
}))

-- where there is no section the statement is refused, as where it is placed
abbrev pub in_last : Meanings → ℕ → Emitted → Option SectionValue → Statement ℕ → Result Emitted AsmFault
in_last m n e None s = Err (Place n)
in_last m n e (Some last) s = with_statement m e last s (statement_bytes m n (length e.sections - 1) last.size s)

-- a section more, without bytes
abbrev pub opened : Emitted → SectionKind → List ℕ → Emitted
opened e kind name = record { sections = e.sections ++ (record { name = name; kind = kind; size = 0; bytes = [] }) ∷ []; relocations = e.relocations }

-- line n; a section whose number has no name is refused, as a statement is where there is no section
abbrev pub emitted : Meanings → ℕ → Emitted → Statement ℕ → Result Emitted AsmFault
emitted m n e (Section name kind) = ok_or (option_map (opened e kind) (slice_get m.sections name)) (Place n)
emitted m n e (Label name) = Ok e
emitted m n e (Global name) = Ok e
emitted m n e s = in_last m n e (slice_get e.sections (length e.sections - 1)) s

abbrev pub emitted_from : Meanings → ℕ → Emitted → List (Statement ℕ) → Result Emitted AsmFault
emitted_from m n e [] = Ok e
emitted_from m n e (s ∷ ss) = unrefused (emitted m n e s) (λ f. emitted_from m (n + 1) f ss)
