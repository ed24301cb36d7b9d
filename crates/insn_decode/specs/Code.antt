-- The code table: what the words of an instruction mean, by quotients and remainders of the first
-- (MSP430x1xx Family User's Guide SLAU049, sections 3.3 and 3.4; the unit instructions are this project's).
use Rattle.std.specs.Prelude.{◌≡◌, ℕ, zero, suc, ◌+◌, ◌-◌, ◌*◌, ◌/◌, ◌%◌, ◌^◌, ◌<◌, List, [], ◌∷◌, slice_get, ◌==◌, nat_lt, if◌then◌else◌, Bool, true, false, ◌&&◌, ◌||◌, Option, Some, None, option_and_then, option_map, ℤ, pos, negsuc, ◌-ℤ◌, IsTrue}
use Rattle.sm_words.specs.Words.{nth}
use Rattle.sm_words.specs.declared.registers.TheConstants.{PC, SR, CG}
use Rattle.sm_words.specs.declared.width.Width.{Width}
use Rattle.sm_words.specs.declared.width.Width.TheVariants.{Byte, Word}
use Rattle.insn_decode.specs.declared.insn.TwoOp.{TwoOp}
use Rattle.insn_decode.specs.declared.insn.TwoOp.TheVariants.{Mov, Add, Addc, Subc, Sub, Cmp, Dadd, Bit, Bic, Bis, Xor, And}
use Rattle.insn_decode.specs.declared.insn.OneOp.{OneOp}
use Rattle.insn_decode.specs.declared.insn.OneOp.TheVariants.{Rrc, Swpb, Rra, Sxt, Push, Call}
use Rattle.insn_decode.specs.declared.insn.Operand.{Operand}
use Rattle.insn_decode.specs.declared.insn.Operand.TheVariants.{Reg, Const, Imm, Indexed, Symbolic, Absolute, Indirect, Increment}
use Rattle.insn_decode.specs.declared.insn.Condition.{Condition}
use Rattle.insn_decode.specs.declared.insn.Condition.TheVariants.{NotZero, Zero, NoCarry, Carry, Negative, GreaterOrEqual, Less, Always}
use Rattle.insn_decode.specs.declared.insn.UnitName.{UnitName}
use Rattle.insn_decode.specs.declared.insn.UnitName.TheVariants.{Unprotect, Protect, Attest, Tag, IdOf, OwnId, CallerId}
use Rattle.insn_decode.specs.declared.insn.Insn.{Insn}
use Rattle.insn_decode.specs.declared.insn.Insn.TheVariants.{Two, One, Jump, Reti, Unit as UnitOp}

-- bits hi to lo of a word, numbered as in the Guide
abbrev pub bits : ℕ → ℕ → ℕ → ℕ
bits hi zero w = w % 2 ^ (hi + 1)
bits hi (suc lo) w = w / 2 ^ suc lo % 2 ^ (hi - lo)

-- a register's row of the source modes 0 to 3; x is the extension word
abbrev pub source_row : ℕ → ℕ → List (Option Operand)
source_row r x =
    if r == PC then Some (Reg PC) ∷ Some (Symbolic x) ∷ None ∷ Some (Imm x) ∷ []
    else (if r == SR then Some (Reg SR) ∷ Some (Absolute x) ∷ Some (Const 4) ∷ Some (Const 8) ∷ []
    else (if r == CG then Some (Const 0) ∷ Some (Const 1) ∷ Some (Const 2) ∷ Some (Const 65535) ∷ []
    else Some (Reg r) ∷ Some (Indexed r x) ∷ Some (Indirect r) ∷ Some (Increment r) ∷ []))

-- a source operand by its mode and register
abbrev pub source_of : ℕ → ℕ → ℕ → Option Operand
source_of mode r x = nth mode (source_row r x) None

-- a destination operand
abbrev pub dest_of : ℕ → ℕ → ℕ → Option Operand
dest_of mode r x =
    if mode == 0 then Some (Reg r)
    else (if r == CG then None
    else (if r == PC then Some (Symbolic x)
    else (if r == SR then Some (Absolute x) else Some (Indexed r x))))

-- the number of extension words
abbrev pub words_of : Operand → ℕ
words_of (Imm x) = 1
words_of (Indexed r x) = 1
words_of (Symbolic x) = 1
words_of (Absolute x) = 1
words_of _ = 0

-- the number of words
abbrev pub length_of : Insn → ℕ
length_of (Two op w s d) = 1 + words_of s + words_of d
length_of (One op w a) = 1 + words_of a
length_of _ = 1

-- the width by the byte flag
abbrev pub width_of : ℕ → Width
width_of b = if b == 1 then Byte else Word

-- the operations of format I, from opcode 4 on
abbrev pub two_ops : List TwoOp
two_ops = Mov ∷ Add ∷ Addc ∷ Subc ∷ Sub ∷ Cmp ∷ Dadd ∷ Bit ∷ Bic ∷ Bis ∷ Xor ∷ And ∷ []

-- the operations of format II, from opcode 0 on
abbrev pub one_ops : List OneOp
one_ops = Rrc ∷ Swpb ∷ Rra ∷ Sxt ∷ Push ∷ Call ∷ []

-- the conditions of jumps, from 0 on
abbrev pub conditions : List Condition
conditions = NotZero ∷ Zero ∷ NoCarry ∷ Carry ∷ Negative ∷ GreaterOrEqual ∷ Less ∷ Always ∷ []

-- the unit instructions, from 0x1380 on
abbrev pub unit_ops : List UnitName
unit_ops = Unprotect ∷ Protect ∷ Attest ∷ Tag ∷ IdOf ∷ OwnId ∷ CallerId ∷ []

-- where a part has no meaning, the whole has none
infixl 10 ◌>>=◌
abbrev pub ◌>>=◌ : {A B : Type 0} → Option A → (A → Option B) → Option B
part >>= rest = option_and_then rest part

-- format I; the source's extension word stands before the destination's
abbrev pub two_of : Option TwoOp → ℕ → ℕ → ℕ → Option Insn
two_of op w0 w1 w2 = do
  op ← op
  src ← source_of (bits 5 4 w0) (bits 11 8 w0) w1
  dst ← dest_of (bits 7 7 w0) (bits 3 0 w0) (if words_of src == 1 then w2 else w1)
  Some (Two op (width_of (bits 6 6 w0)) src dst)

-- what format II takes: three operations have no byte form, and a result needs a place
abbrev pub one_fits : OneOp → Width → Operand → Bool
one_fits Push w a = true
one_fits Call Byte a = false
one_fits Call Word a = true
one_fits Swpb Byte a = false
one_fits Sxt Byte a = false
one_fits op w (Imm x) = false
one_fits op w (Const c) = false
one_fits op w a = true

-- format II
abbrev pub one_of : Option OneOp → ℕ → ℕ → Option Insn
one_of op w0 w1 = do
  op ← op
  arg ← source_of (bits 5 4 w0) (bits 3 0 w0) w1
  if one_fits op (width_of (bits 6 6 w0)) arg then Some (One op (width_of (bits 6 6 w0)) arg) else None

-- a jump's offset in words: ten bits, signed
abbrev pub offset_of : ℕ → ℤ
offset_of n = if nat_lt n 512 then pos n else (pos n -ℤ pos 1024)

-- a jump
abbrev pub jump_of : Option Condition → ℕ → Option Insn
jump_of condition w0 = do
  condition ← condition
  Some (Jump condition (offset_of (bits 9 0 w0)))

-- a jump's offset as a distance in bytes, modulo 65,536
abbrev pub distance : ℤ → ℕ
distance (pos n) = (2 * n) % 65536
distance (negsuc n) = 65536 - (2 * (n + 1)) % 65536

-- the instruction that these words begin with, or none where the first is outside the table
unfoldable pub insn_of : ℕ → ℕ → ℕ → Option Insn
insn_of w0 w1 w2 =
    if nat_lt 0x3fff w0 then two_of (slice_get two_ops (w0 / 4096 - 4)) w0 w1 w2
    else (if w0 / 8192 == 1 then jump_of (slice_get conditions (bits 12 10 w0)) w0
    else (if w0 == 0x1300 then Some Reti
    else (if nat_lt 0x137f w0 && nat_lt w0 0x1387 then option_map UnitOp (slice_get unit_ops (w0 - 0x1380))
    else (if w0 / 1024 == 4 then one_of (slice_get one_ops (bits 9 7 w0)) w0 w1
    else None))))

-- what a first word alone means: whether it begins an instruction, and how long that is, hangs on no later word
abbrev pub begun_by : ℕ → Option Insn
begun_by w0 = insn_of w0 0 0

-- the length of an instruction, and 1 where there is none
abbrev pub length_or_one : Option Insn → ℕ
length_or_one (Some insn) = length_of insn
length_or_one None = 1

-- the number of words that a first word calls for, and 1 where it is outside the table
abbrev pub length_at : ℕ → ℕ
length_at w0 = length_or_one (begun_by w0)

-- an instruction that some words mean
pub record IsDecoded (insn : Insn) : Type 0 where
  pub first : ℕ
  pub second : ℕ
  pub third : ℕ
  pub means : insn_of first second third ≡ Some insn

-- whether a jump under it is taken whatever the flags are
abbrev pub is_always : Condition → Bool
is_always Always = true
is_always _ = false

-- whether it is one of the unit instructions
abbrev pub is_unit : Insn → Bool
is_unit (UnitOp name) = true
is_unit _ = false

-- whether a number needs no extension word
abbrev pub is_constant : ℕ → Bool
is_constant c = (c == 0) || (c == 1) || (c == 2) || (c == 4) || (c == 8) || (c == 65535)

-- an operand names one of the sixteen registers, or one of the six constants
abbrev pub HasParts : Operand → Type 0
HasParts (Reg r) = r < 16
HasParts (Const c) = IsTrue (is_constant c)
HasParts (Indexed r x) = r < 16
HasParts (Indirect r) = r < 16
HasParts (Increment r) = r < 16
HasParts _ = Unit {0}

-- what each instruction of the table keeps
abbrev pub HasForm : Insn → Type 0
HasForm (Two op w s d) = HasParts s × HasParts d
HasForm (One op w a) = HasParts a × IsTrue (one_fits op w a)
HasForm _ = Unit {0}
