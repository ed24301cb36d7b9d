-- The text of an operand, read: names stand for numbers, and leave 0.
use Rattle.std.specs.Prelude.{ℕ, ◌-◌, ◌==◌, if◌then◌else◌, List, length, take, drop, Option, Some, None, option_map, codes}
use Rattle.std.specs.List.{starts_with, ends_with}
use Rattle.std.specs.Str.{bytes_eq}
use Rattle.texts.specs.Decimals.{read_decimal}
use Rattle.texts.specs.Hexadecimals.{read_hex_word}
use Rattle.insn_decode.specs.declared.insn.Operand.{Operand}
use Rattle.insn_decode.specs.declared.insn.Operand.TheVariants.{Reg, Const, Imm, Indexed, Absolute, Indirect, Increment}
use Rattle.asm_line.specs.declared.statement.Field.{Field}
use Rattle.asm_line.specs.declared.statement.Field.TheVariants.{Number, Name}
use Rattle.asm_line.specs.Identifiers.{is_name}
use Rattle.asm_line.specs.Statements.{OperandValue}

-- what stands behind this front, if the text begins so
abbrev pub behind : List ℕ → List ℕ → Option (List ℕ)
behind front text = if starts_with (λ a b. a == b) text front then Some (drop (length front) text) else None

-- what stands before this end, if the text ends so
abbrev pub without_ending : List ℕ → List ℕ → Option (List ℕ)
without_ending end text = if ends_with (λ a b. a == b) text end then Some (take (length text - length end) text) else None

abbrev pub name_of : List ℕ → Option (List ℕ)
name_of text = if is_name text then Some text else None

-- a number by `0x` and four digits, or a name
abbrev pub field_by : Option (List ℕ) → List ℕ → Option (Field (List ℕ))
field_by (Some digits) text = option_map Number (read_hex_word digits)
field_by None text = option_map Name (name_of text)

abbrev pub field_of : List ℕ → Option (Field (List ℕ))
field_of text = field_by (behind (codes "0x") text) text

-- a register's number, 0 to 15
abbrev pub register_of : List ℕ → Option ℕ
register_of text = read_decimal 15 text

-- an operand of a number, in which a name may stand
abbrev pub of_field : (ℕ → Operand) → Field (List ℕ) → OperandValue
of_field make (Number n) = record { operand = make n; name = None }
of_field make (Name name) = record { operand = make 0; name = Some name }

-- an operand without a name
abbrev pub plain : Operand → OperandValue
plain o = record { operand = o; name = None }

-- behind `#`: -1, a number of four digits or a name, or a small number
abbrev pub number_by : Option (Field (List ℕ)) → List ℕ → Option OperandValue
number_by (Some field) text = Some (of_field Imm field)
number_by None text = option_map (λ n. plain (Const n)) (read_decimal 8 text)

unfoldable pub immediate_of : List ℕ → Option OperandValue
immediate_of text = if bytes_eq text (codes "-1") then Some (plain (Const 65535)) else number_by (field_of text) text

-- behind `@r`: a register, and `+` where it rises
abbrev pub indirect_by : Option (List ℕ) → List ℕ → Option OperandValue
indirect_by (Some register) text = option_map (λ r. plain (Increment r)) (register_of register)
indirect_by None text = option_map (λ r. plain (Indirect r)) (register_of text)

unfoldable pub indirect_of : List ℕ → Option OperandValue
indirect_of text = indirect_by (without_ending (codes "+") text) text

-- a number and a register
abbrev pub indexed_at : Option ℕ → Option ℕ → Option OperandValue
indexed_at (Some x) (Some r) = Some (plain (Indexed r x))
indexed_at _ _ = None

-- behind `0x`: four digits, and a register in parentheses
abbrev pub indexed_by : List ℕ → Option (List ℕ) → Option OperandValue
indexed_by digits None = None
indexed_by digits (Some register) = indexed_at (read_hex_word digits) (register_of register)

abbrev pub without_end : Option (List ℕ) → Option (List ℕ)
without_end None = None
without_end (Some text) = without_ending (codes ")") text

unfoldable pub indexed_of : List ℕ → Option OperandValue
indexed_of text = indexed_by (take 4 text) (without_end (behind (codes "(r") (drop 4 text)))

-- behind `r`: a register
abbrev pub register_operand : List ℕ → Option OperandValue
register_operand text = option_map (λ r. plain (Reg r)) (register_of text)

-- behind `&`: a number of four digits or a name
abbrev pub absolute_of : List ℕ → Option OperandValue
absolute_of text = option_map (of_field Absolute) (field_of text)

-- what is read behind a front, where the text has it, or else another operand
abbrev pub behind_or : Option (List ℕ) → (List ℕ → Option OperandValue) → Option OperandValue → Option OperandValue
behind_or (Some rest) read other = read rest
behind_or None read other = other

-- the operand by its front; no text has two of these
unfoldable pub operand_of : List ℕ → Option OperandValue
operand_of text =
    behind_or (behind (codes "r") text) register_operand
    (behind_or (behind (codes "#") text) immediate_of
    (behind_or (behind (codes "&") text) absolute_of
    (behind_or (behind (codes "@r") text) indirect_of
    (behind_or (behind (codes "0x") text) indexed_of None))))
