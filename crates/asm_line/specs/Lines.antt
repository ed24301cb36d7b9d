-- The statement that a line writes: words parted by single spaces.
use Rattle.std.specs.Prelude.{ℕ, ◌%◌, ◌==◌, nat_le, ◌&&◌, if◌then◌else◌, List, [], ◌∷◌, Option, Some, None, option_map, option_and_then, is_some, codes, find, slice_get}
use Rattle.std.specs.Str.{bytes_eq}
use Rattle.texts.specs.Decimals.{read_decimal}
use Rattle.texts.specs.Words.{words}
use Rattle.sm_words.specs.declared.width.Width.{Width}
use Rattle.sm_words.specs.declared.width.Width.TheVariants.{Byte, Word as WordWidth}
use Rattle.insn_decode.specs.declared.insn.TwoOp.{TwoOp}
use Rattle.insn_decode.specs.declared.insn.OneOp.{OneOp}
use Rattle.insn_decode.specs.declared.insn.Condition.{Condition}
use Rattle.insn_decode.specs.declared.insn.Insn.{Insn}
use Rattle.insn_decode.specs.declared.insn.Insn.TheVariants.{Two, One, Reti, Unit as UnitOp}
use Rattle.insn_decode.specs.Code.{two_ops, one_ops, conditions, unit_ops}
use Rattle.insn_decode.specs.Text.{two_name, one_name, jump_name}
use Rattle.asm_line.specs.declared.statement.SectionKind.{SectionKind}
use Rattle.asm_line.specs.declared.statement.SectionKind.TheVariants.{Code as CodeKind, Data as DataKind, Bss as BssKind}
use Rattle.asm_line.specs.declared.statement.Statement.{Statement}
use Rattle.asm_line.specs.declared.statement.Statement.TheVariants.{Section, Label, Global, Word, Space, Jump, Code}
use Rattle.asm_line.specs.declared.TheConstants.{MAX_SIZE}
use Rattle.asm_line.specs.Encoding.{leading_word}
use Rattle.asm_line.specs.Operands.{name_of, field_of, operand_of, without_ending}
use Rattle.asm_line.specs.Statements.{OperandValue}

-- ---- instructions

-- an instruction that some words mean
abbrev pub coded : Insn → Option (List ℕ) → Option (List ℕ) → Option (Statement (List ℕ))
coded insn first second = if is_some (leading_word insn) then Some (Code insn first second) else None

-- the mnemonic before `.b`, if it ends so
abbrev pub mnemonic_width : List ℕ → Width
mnemonic_width word = by (without_ending (codes ".b") word)
  where
    by : Option (List ℕ) → Width
    by (Some base) = Byte
    by None = WordWidth

abbrev pub base_of : List ℕ → List ℕ
base_of word = by (without_ending (codes ".b") word)
  where
    by : Option (List ℕ) → List ℕ
    by (Some base) = base
    by None = word

abbrev pub two_op_of : List ℕ → Option TwoOp
two_op_of base = find (λ op. bytes_eq base (two_name op)) two_ops

abbrev pub one_op_of : List ℕ → Option OneOp
one_op_of base = find (λ op. bytes_eq base (one_name op)) one_ops

abbrev pub condition_of : List ℕ → Option Condition
condition_of word = find (λ condition. bytes_eq word (jump_name condition)) conditions

abbrev pub one_coded : Width → Option OneOp → Option OperandValue → Option (Statement (List ℕ))
one_coded w (Some op) (Some a) = coded (One op w a.operand) a.name None
one_coded w _ _ = None

abbrev pub two_coded : Width → Option TwoOp → Option OperandValue → Option OperandValue → Option (Statement (List ℕ))
two_coded w (Some op) (Some s) (Some d) = coded (Two op w s.operand d.operand) s.name d.name
two_coded w _ _ _ = None

-- ---- lines by their words

abbrev pub section_kind : List ℕ → Option SectionKind
section_kind word =
    if bytes_eq word (codes "code") then Some CodeKind
    else (if bytes_eq word (codes "data") then Some DataKind
    else (if bytes_eq word (codes "bss") then Some BssKind else None))

abbrev pub section_statement : Option (List ℕ) → Option SectionKind → Option (Statement (List ℕ))
section_statement (Some name) (Some kind) = Some (Section name kind)
section_statement _ _ = None

-- an even number from 2 to 65,534
abbrev pub even_size : ℕ → Option (Statement (List ℕ))
even_size n = if nat_le 2 n && (n % 2 == 0) then Some (Space n) else None

abbrev pub space_of : List ℕ → Option (Statement (List ℕ))
space_of word = option_and_then even_size (read_decimal MAX_SIZE word)

-- the unit instruction of a number
abbrev pub numbered_unit : ℕ → Option (Statement (List ℕ))
numbered_unit n = option_map (λ name. Code (UnitOp name) None None) (slice_get unit_ops n)

abbrev pub unit_statement : List ℕ → Option (Statement (List ℕ))
unit_statement word = option_and_then numbered_unit (read_decimal 6 word)

abbrev pub alone : List ℕ → Option (Statement (List ℕ))
alone word = if bytes_eq word (codes "reti") then Some (Code Reti None None) else None

abbrev pub one_operand : List ℕ → List ℕ → Option (Statement (List ℕ))
one_operand word text = one_coded (mnemonic_width word) (one_op_of (base_of word)) (operand_of text)

abbrev pub jump_or_one : Option Condition → List ℕ → List ℕ → Option (Statement (List ℕ))
jump_or_one (Some condition) word text = option_map (Jump condition) (name_of text)
jump_or_one None word text = one_operand word text

abbrev pub with_one : List ℕ → List ℕ → Option (Statement (List ℕ))
with_one word text =
    if bytes_eq word (codes "label") then option_map Label (name_of text)
    else (if bytes_eq word (codes "global") then option_map Global (name_of text)
    else (if bytes_eq word (codes "word") then option_map Word (field_of text)
    else (if bytes_eq word (codes "space") then space_of text
    else (if bytes_eq word (codes "unit") then unit_statement text
    else jump_or_one (condition_of word) word text))))

abbrev pub two_operands : Option (List ℕ) → List ℕ → List ℕ → Option (Statement (List ℕ))
two_operands (Some source) word dest = two_coded (mnemonic_width word) (two_op_of (base_of word)) (operand_of source) (operand_of dest)
two_operands None word dest = None

abbrev pub with_two : List ℕ → List ℕ → List ℕ → Option (Statement (List ℕ))
with_two word first second =
    if bytes_eq word (codes "section") then section_statement (name_of first) (section_kind second)
    else two_operands (without_ending (codes ",") first) word second

abbrev pub by_words : List (List ℕ) → Option (Statement (List ℕ))
by_words (word ∷ []) = alone word
by_words (word ∷ text ∷ []) = with_one word text
by_words (word ∷ first ∷ second ∷ []) = with_two word first second
by_words _ = None

unfoldable pub statement_of : List ℕ → Option (Statement (List ℕ))
statement_of line = by_words (words line)
