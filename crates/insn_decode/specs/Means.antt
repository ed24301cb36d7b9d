-- The code table as a relation: one row for each form of a first word.
use Rattle.std.specs.Prelude.{◌≡◌, ◌≢◌, ℕ, ◌+◌, ◌/◌, ◌==◌, if◌then◌else◌, IsTrue}
use Rattle.insn_decode.specs.declared.insn.TwoOp.{TwoOp}
use Rattle.insn_decode.specs.declared.insn.TwoOp.TheVariants.{Mov, Add, Addc, Subc, Sub, Cmp, Dadd, Bit, Bic, Bis, Xor, And}
use Rattle.insn_decode.specs.declared.insn.OneOp.{OneOp}
use Rattle.insn_decode.specs.declared.insn.OneOp.TheVariants.{Rrc, Swpb, Rra, Sxt, Push, Call}
use Rattle.insn_decode.specs.declared.insn.Operand.{Operand}
use Rattle.insn_decode.specs.declared.insn.Operand.TheVariants.{Reg, Const, Imm, Indexed, Symbolic, Absolute, Indirect, Increment}
use Rattle.insn_decode.specs.declared.insn.Condition.{Condition}
use Rattle.insn_decode.specs.declared.insn.Condition.TheVariants.{NotZero, Zero, NoCarry, Carry, Negative, GreaterOrEqual, Less, Always}
use Rattle.insn_decode.specs.declared.insn.UnitName.{UnitName}
use Rattle.insn_decode.specs.declared.insn.UnitName.TheVariants.{Unprotect, Protect, Attest, Tag, IdOf, OwnId, CallerId}
use Rattle.insn_decode.specs.declared.insn.Insn.{Insn}
use Rattle.insn_decode.specs.declared.insn.Insn.TheVariants.{Two, One, Jump, Reti, Unit as UnitOp}
use Rattle.insn_decode.specs.Code.{bits, words_of, width_of, offset_of, one_fits}

-- bits 15 to 12 of format I
abbrev pub two_code : TwoOp → ℕ
two_code Mov = 4
two_code Add = 5
two_code Addc = 6
two_code Subc = 7
two_code Sub = 8
two_code Cmp = 9
two_code Dadd = 10
two_code Bit = 11
two_code Bic = 12
two_code Bis = 13
two_code Xor = 14
two_code And = 15

-- bits 9 to 7 of format II
abbrev pub one_code : OneOp → ℕ
one_code Rrc = 0
one_code Swpb = 1
one_code Rra = 2
one_code Sxt = 3
one_code Push = 4
one_code Call = 5

-- bits 12 to 10 of a jump
abbrev pub condition_code : Condition → ℕ
condition_code NotZero = 0
condition_code Zero = 1
condition_code NoCarry = 2
condition_code Carry = 3
condition_code Negative = 4
condition_code GreaterOrEqual = 5
condition_code Less = 6
condition_code Always = 7

-- the number of a unit instruction: its word is 0x1380 and the number
abbrev pub unit_code : UnitName → ℕ
unit_code Unprotect = 0
unit_code Protect = 1
unit_code Attest = 2
unit_code Tag = 3
unit_code IdOf = 4
unit_code OwnId = 5
unit_code CallerId = 6

-- R1 and R4 to R15, which have no modes of their own
pub record IsPlain (r : ℕ) : Type 0 where
  pub not_pc : r ≢ 0
  pub not_sr : r ≢ 2
  pub not_constants : r ≢ 3

-- the operand that a mode and a register mean as a source; x is the extension word
pub data Source : ℕ → ℕ → ℕ → Operand → Type 0 where
  register : (r x : ℕ) → r ≢ 3 → Source 0 r x (Reg r)
  symbolic : (x : ℕ) → Source 1 0 x (Symbolic x)
  absolute : (x : ℕ) → Source 1 2 x (Absolute x)
  indexed : (r x : ℕ) → IsPlain r → Source 1 r x (Indexed r x)
  indirect : (r x : ℕ) → IsPlain r → Source 2 r x (Indirect r)
  increment : (r x : ℕ) → IsPlain r → Source 3 r x (Increment r)
  immediate : (x : ℕ) → Source 3 0 x (Imm x)
  four : (x : ℕ) → Source 2 2 x (Const 4)
  eight : (x : ℕ) → Source 3 2 x (Const 8)
  nought : (x : ℕ) → Source 0 3 x (Const 0)
  one : (x : ℕ) → Source 1 3 x (Const 1)
  two : (x : ℕ) → Source 2 3 x (Const 2)
  all_ones : (x : ℕ) → Source 3 3 x (Const 65535)

-- the operand that a mode and a register mean as a destination
pub data Destination : ℕ → ℕ → ℕ → Operand → Type 0 where
  to_register : (r x : ℕ) → Destination 0 r x (Reg r)
  to_symbolic : (x : ℕ) → Destination 1 0 x (Symbolic x)
  to_absolute : (x : ℕ) → Destination 1 2 x (Absolute x)
  to_indexed : (r x : ℕ) → IsPlain r → Destination 1 r x (Indexed r x)

-- the words mean this instruction of this length
pub data Means (w0 w1 w2 : ℕ) : Insn → ℕ → Type 0 where
  format_one : (op : TwoOp) (s d : Operand) → w0 / 4096 ≡ two_code op → Source (bits 5 4 w0) (bits 11 8 w0) w1 s → Destination (bits 7 7 w0) (bits 3 0 w0) (if words_of s == 1 then w2 else w1) d → Means w0 w1 w2 (Two op (width_of (bits 6 6 w0)) s d) (1 + words_of s + words_of d)
  format_two : (op : OneOp) (a : Operand) → w0 / 1024 ≡ 4 → bits 9 7 w0 ≡ one_code op → Source (bits 5 4 w0) (bits 3 0 w0) w1 a → IsTrue (one_fits op (width_of (bits 6 6 w0)) a) → Means w0 w1 w2 (One op (width_of (bits 6 6 w0)) a) (1 + words_of a)
  jump : (condition : Condition) → w0 / 8192 ≡ 1 → bits 12 10 w0 ≡ condition_code condition → Means w0 w1 w2 (Jump condition (offset_of (bits 9 0 w0))) 1
  return : w0 ≡ 0x1300 → Means w0 w1 w2 Reti 1
  unit : (name : UnitName) → w0 ≡ 0x1380 + unit_code name → Means w0 w1 w2 (UnitOp name) 1

-- no row of the table has this first word, whatever words follow it
abbrev pub IsOutside : ℕ → Type 0
IsOutside w0 = (w1 w2 n : ℕ) (insn : Insn) → ¬ Means w0 w1 w2 insn n
