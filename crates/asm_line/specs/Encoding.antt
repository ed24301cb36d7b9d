-- The words of an instruction (MSP430x1xx Family User's Guide SLAU049, sections 3.3 and 3.4).
use Rattle.std.specs.Prelude.{◌≡◌, ℕ, ◌+◌, ◌-◌, ◌*◌, ◌==◌, nat_lt, not, ◌&&◌, if◌then◌else◌, List, [], ◌∷◌, ◌++◌, length, take, flat_map, Option, Some, None, option_map, ℤ, pos, negsuc}
use Rattle.sm_words.specs.Bytes.{word_bytes}
use Rattle.sm_words.specs.declared.width.Width.{Width}
use Rattle.sm_words.specs.declared.width.Width.TheVariants.{Byte, Word}
use Rattle.insn_decode.specs.declared.insn.Operand.{Operand}
use Rattle.insn_decode.specs.declared.insn.Operand.TheVariants.{Reg, Const, Imm, Indexed, Symbolic, Absolute, Indirect, Increment}
use Rattle.insn_decode.specs.declared.insn.Insn.{Insn}
use Rattle.insn_decode.specs.declared.insn.Insn.TheVariants.{Two, One, Jump, Reti, Unit as UnitOp}
use Rattle.insn_decode.specs.Code.{length_of, one_fits, ◌>>=◌}
use Rattle.insn_decode.specs.Means.{two_code, one_code, condition_code, unit_code, Means}
use Rattle.asm_line.specs.declared.encoding.OperandFields.{OperandFields}

-- ---- fields of a first word

abbrev pub fields : ℕ → ℕ → Option OperandFields
fields mode register = Some (record { mode = mode; register = register })

-- R1 and R4 to R15 alone have these modes
abbrev pub plain_fields : ℕ → ℕ → Option OperandFields
plain_fields mode r = if nat_lt r 16 && not (r == 0) && not (r == 2) && not (r == 3) then fields mode r else None

-- six constants are modes of R2 and R3
abbrev pub constant_fields : ℕ → Option OperandFields
constant_fields c =
    if c == 0 then fields 0 3
    else (if c == 1 then fields 1 3
    else (if c == 2 then fields 2 3
    else (if c == 4 then fields 2 2
    else (if c == 8 then fields 3 2
    else (if c == 65535 then fields 3 3 else None)))))

-- the mode and the register of a source; R3 itself is none
abbrev pub source_fields : Operand → Option OperandFields
source_fields (Reg r) = if nat_lt r 16 && not (r == 3) then fields 0 r else None
source_fields (Const c) = constant_fields c
source_fields (Imm x) = fields 3 0
source_fields (Indexed r x) = plain_fields 1 r
source_fields (Symbolic x) = fields 1 0
source_fields (Absolute x) = fields 1 2
source_fields (Indirect r) = plain_fields 2 r
source_fields (Increment r) = plain_fields 3 r

-- the mode and the register of a destination
abbrev pub dest_fields : Operand → Option OperandFields
dest_fields (Reg r) = if nat_lt r 16 then fields 0 r else None
dest_fields (Indexed r x) = plain_fields 1 r
dest_fields (Symbolic x) = fields 1 0
dest_fields (Absolute x) = fields 1 2
dest_fields _ = None

abbrev pub byte_flag : Width → ℕ
byte_flag Byte = 1
byte_flag Word = 0

-- an offset in ten bits, signed
abbrev pub offset_bits : ℤ → Option ℕ
offset_bits (pos n) = if nat_lt n 512 then Some n else None
offset_bits (negsuc n) = if nat_lt n 512 then Some (1023 - n) else None

-- the first word, where the code table has the instruction
unfoldable pub leading_word : Insn → Option ℕ
leading_word (Two op w s d) = do
  s ← source_fields s
  d ← dest_fields d
  Some (two_code op * 0x1000 + s.register * 256 + d.mode * 128 + byte_flag w * 64 + s.mode * 16 + d.register)
leading_word (One op w a) = do
  f ← source_fields a
  if one_fits op w a then Some (0x1000 + one_code op * 128 + byte_flag w * 64 + f.mode * 16 + f.register) else None
leading_word (Jump condition offset) = option_map (λ bits. 0x2000 + condition_code condition * 1024 + bits) (offset_bits offset)
leading_word Reti = Some 0x1300
leading_word (UnitOp name) = Some (0x1380 + unit_code name)

-- ---- all words

-- an operand's extension word, if it has one
abbrev pub extension : Operand → List ℕ
extension (Imm x) = x ∷ []
extension (Indexed r x) = x ∷ []
extension (Symbolic x) = x ∷ []
extension (Absolute x) = x ∷ []
extension _ = []

abbrev pub extensions : Insn → List ℕ
extensions (Two op w s d) = extension s ++ extension d
extensions (One op w a) = extension a
extensions _ = []

abbrev pub encoded_words : Insn → Option (List ℕ)
encoded_words insn = option_map (λ word. word ∷ extensions insn) (leading_word insn)

-- these words mean the instruction, by the code table, whatever words follow them
abbrev pub IsMeant : Insn → List ℕ → Type 0
IsMeant insn words = (w0 w1 w2 : ℕ) → words ≡ take (length words) (w0 ∷ w1 ∷ w2 ∷ []) → Means w0 w1 w2 insn (length_of insn)

-- the bytes of its words
abbrev pub code_bytes : Insn → Option (List ℕ)
code_bytes insn = option_map (flat_map word_bytes) (encoded_words insn)
