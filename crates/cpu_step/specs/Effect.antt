-- What an instruction does once its reads gave their values: the instruction set of the
-- MSP430x1xx Family User's Guide (SLAU049), section 3.4.
use Rattle.std.specs.Prelude.{ℕ, List, [], ◌∷◌, drop, slice_index, ◌==◌, Bool, true, false, not, if◌then◌else◌, ℤ, bit_and, bit_or}
use Rattle.sm_words.specs.Sums.{low, complement, sum_of, dadd_of, and_of, xor_of, shifted, rra_of, sxt_of, swpb_of}
use Rattle.sm_words.specs.Words.{reg, put, bit, add16}
use Rattle.sm_words.specs.Status.{sr_with_flags}
pub use Rattle.sm_words.specs.Status.{confined_sr}
use Rattle.sm_words.specs.declared.registers.TheConstants.{PC, SP, SR}
use Rattle.sm_words.specs.declared.status.TheConstants.{CARRY, ZERO, NEGATIVE, OVERFLOW}
use Rattle.sm_words.specs.declared.width.Width.{Width}
use Rattle.insn_decode.specs.Code.{distance}
use Rattle.insn_decode.specs.declared.insn.Condition.{Condition}
use Rattle.insn_decode.specs.declared.insn.Condition.TheVariants.{NotZero, Zero, NoCarry, Carry, Negative, GreaterOrEqual, Less, Always}
use Rattle.insn_decode.specs.declared.insn.Insn.{Insn}
use Rattle.insn_decode.specs.declared.insn.Insn.TheVariants.{Two, One, Jump, Reti, Unit as UnitOp}
use Rattle.insn_decode.specs.declared.insn.OneOp.{OneOp}
use Rattle.insn_decode.specs.declared.insn.OneOp.TheVariants.{Rrc, Swpb, Rra, Sxt, Push, Call}
use Rattle.insn_decode.specs.declared.insn.Operand.{Operand}
use Rattle.insn_decode.specs.declared.insn.Operand.TheVariants.{Reg, Const, Imm}
use Rattle.insn_decode.specs.declared.insn.TwoOp.{TwoOp}
use Rattle.insn_decode.specs.declared.insn.TwoOp.TheVariants.{Mov, Add, Addc, Subc, Sub, Cmp, Dadd, Bit, Bic, Bis, Xor, And}
use Rattle.cpu_step.specs.Plan.{past, stepped, lowered, writes_dst}
use Rattle.cpu_step.specs.declared.result.Computed.{Computed}
use Rattle.cpu_step.specs.declared.result.Computed.TheVariants.{Plain, Flagged}

-- ---- results

-- a result's value
abbrev pub value_of : Computed → ℕ
value_of (Plain v) = v
value_of (Flagged s) = s.value

-- format I: of the width, the source, the destination and C
abbrev pub two_result : TwoOp → Width → ℕ → ℕ → ℕ → Computed
two_result Mov w s d c = Plain s
two_result Add w s d c = Flagged (sum_of w d s 0)
two_result Addc w s d c = Flagged (sum_of w d s c)
two_result Subc w s d c = Flagged (sum_of w d (complement w s) c)
two_result Sub w s d c = Flagged (sum_of w d (complement w s) 1)
two_result Cmp w s d c = Flagged (sum_of w d (complement w s) 1)
two_result Dadd w s d c = Flagged (dadd_of w d s c)
two_result Bit w s d c = Flagged (and_of w d s)
two_result And w s d c = Flagged (and_of w d s)
two_result Bic w s d c = Plain (bit_and d (complement w s))
two_result Bis w s d c = Plain (bit_or d s)
two_result Xor w s d c = Flagged (xor_of w d s)

-- format II: of the width, the operand and C
abbrev pub one_result : OneOp → Width → ℕ → ℕ → Computed
one_result Rrc w a c = Flagged (shifted w a c)
one_result Rra w a c = Flagged (rra_of w a)
one_result Swpb w a c = Plain (swpb_of a)
one_result Sxt w a c = Flagged (sxt_of a)
one_result Push w a c = Plain a
one_result Call w a c = Plain a

-- ---- the core and the values of the planned writes

-- what an instruction leaves: the core, and what is stored, write by write
pub record Done : Type 0 where
  pub core : List ℕ
  pub stored : List ℕ

-- SR with a result's flags
abbrev pub with_flags : Computed → ℕ → ℕ
with_flags (Plain v) sr = sr
with_flags (Flagged s) sr = sr_with_flags s sr

-- the core with a result's flags
abbrev pub set_flags : Computed → List ℕ → List ℕ
set_flags r core = put core SR (with_flags r (reg core SR))

-- the value that an operand gives: of a register, of the instruction, or the low byte or the
-- word of the first value read
abbrev pub given : Operand → Width → List ℕ → List ℕ → ℕ
given (Reg r) w core values = low w (reg core r)
given (Const c) w core values = low w c
given (Imm x) w core values = low w x
given _ w core values = low w (slice_index values 0)

-- whether an operand stands in memory
abbrev pub in_memory : Operand → Bool
in_memory (Reg r) = false
in_memory (Const c) = false
in_memory (Imm x) = false
in_memory _ = true

-- the values that are left once an operand took its own
abbrev pub after_given : Operand → List ℕ → List ℕ
after_given o values = if in_memory o then drop 1 values else values

-- a result put into a register: SR keeps what is written there, without flags
abbrev pub into_register : Bool → ℕ → Computed → List ℕ → List ℕ
into_register true r res core = put core SR (value_of res)
into_register false r res core = put (set_flags res core) r (value_of res)

-- a result written into its operand, or its flags alone
abbrev pub written : Bool → Operand → Computed → List ℕ → Done
written true (Reg r) res core = record { core = into_register (r == SR) r res core; stored = [] }
written true _ res core = record { core = set_flags res core; stored = value_of res ∷ [] }
written false _ res core = record { core = set_flags res core; stored = [] }

-- whether a jump is taken, by the flags of SR
abbrev pub jumps : Condition → ℕ → Bool
jumps NotZero sr = bit ZERO sr == 0
jumps Zero sr = bit ZERO sr == 1
jumps NoCarry sr = bit CARRY sr == 0
jumps Carry sr = bit CARRY sr == 1
jumps Negative sr = bit NEGATIVE sr == 1
jumps GreaterOrEqual sr = bit NEGATIVE sr == bit OVERFLOW sr
jumps Less sr = not (bit NEGATIVE sr == bit OVERFLOW sr)
jumps Always sr = true

-- the core past a jump that is taken, or not
abbrev pub jumped : Bool → ℤ → List ℕ → List ℕ
jumped true offset core = put core PC (add16 (reg core PC) (distance offset))
jumped false offset core = core

-- the core that RETI leaves: SR and PC are the two words read, and SP rises by 4
abbrev pub returned : List ℕ → List ℕ → List ℕ
returned read core = put (put (put core SR (slice_index read 0)) PC (slice_index read 1)) SP (add16 (reg core SP) 4)

-- format II, where the operand is read and its increment is done: PUSH and CALL store at the lowered SP
abbrev pub one_done : OneOp → Width → Operand → ℕ → ℕ → List ℕ → Done
one_done Push w arg a c core = record { core = lowered core; stored = a ∷ [] }
one_done Call w arg a c core = record { core = put (lowered core) PC a; stored = reg core PC ∷ [] }
one_done op w arg a c core = written true arg (one_result op w a c) core

-- an instruction with no regard to who runs it
unfoldable pub does_freely : Insn → List ℕ → List ℕ → Done
does_freely (Two op w s d) core values =
    let core1 = past (Two op w s d) core in
    let core2 = stepped w s core1 in
    let a = given s w core1 values in
    let b = given d w core2 (after_given s values) in
    written (writes_dst op) d (two_result op w a b (bit CARRY (reg core SR))) core2
does_freely (One op w arg) core values =
    let core1 = past (One op w arg) core in
    one_done op w arg (given arg w core1 values) (bit CARRY (reg core SR)) (stepped w arg core1)
does_freely (Jump condition off) core values =
    record { core = jumped (jumps condition (reg core SR)) off (past (Jump condition off) core); stored = [] }
does_freely Reti core values = record { core = returned values core; stored = [] }
does_freely (UnitOp name) core values = record { core = past (UnitOp name) core; stored = [] }

-- the new core, where a module runs: SR keeps all bits but C, Z, N and V
unfoldable pub confined : Bool → List ℕ → List ℕ → List ℕ
confined true old new = put new SR (confined_sr (reg old SR) (reg new SR))
confined false old new = new

-- an instruction, inside a module or outside
unfoldable pub does : Insn → List ℕ → List ℕ → Bool → Done
does insn core values inside =
    let d = does_freely insn core values in record { core = confined inside core d.core; stored = d.stored }
