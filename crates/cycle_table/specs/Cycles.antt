-- The two tables of cycles (made after the MSP430x1xx Family User's Guide SLAU049, section 3.4.4).
use Rattle.std.specs.Prelude.{ℕ, ◌+◌, ◌==◌, if◌then◌else◌}
use Rattle.sm_words.specs.declared.registers.TheConstants.{PC}
use Rattle.insn_decode.specs.declared.insn.OneOp.{OneOp}
use Rattle.insn_decode.specs.declared.insn.OneOp.TheVariants.{Push, Call}
use Rattle.insn_decode.specs.declared.insn.Operand.{Operand}
use Rattle.insn_decode.specs.declared.insn.Operand.TheVariants.{Reg, Const, Imm, Indirect, Increment}
use Rattle.insn_decode.specs.Code.{words_of}
use Rattle.insn_decode.specs.declared.insn.Insn.{Insn}
use Rattle.insn_decode.specs.declared.insn.Insn.TheVariants.{Two, One, Jump, Reti, Unit as UnitOp}

-- format I has a column for each place of the result: a register, PC, memory
abbrev pub by_place : Operand → (register pc memory : ℕ) → ℕ
by_place (Reg r) register pc memory = if r == PC then pc else register
by_place _ register pc memory = memory

-- its rows, by the source: the last is that of all modes with an extension word, but for an immediate
abbrev pub two_cycles : Operand → Operand → ℕ
two_cycles (Reg r) d = by_place d 1 2 4
two_cycles (Const c) d = by_place d 1 2 4
two_cycles (Indirect r) d = by_place d 2 2 5
two_cycles (Increment r) d = by_place d 2 3 5
two_cycles (Imm x) d = by_place d 2 3 5
two_cycles _ d = by_place d 3 3 6

-- format II has one column for RRC, RRA, SWPB and SXT, by the place that they change: a register, or memory, and a cycle more for
-- an extension word
abbrev pub in_place : Operand → ℕ
in_place (Reg r) = 1
in_place a = 3 + words_of a

-- and one each for PUSH and CALL
abbrev pub by_operation : OneOp → Operand → (push call : ℕ) → ℕ
by_operation Push a push call = push
by_operation Call a push call = call
by_operation _ a push call = in_place a

-- whose rows go by the operand: a constant's is that of a register, and the last is as above
abbrev pub one_cycles : Operand → OneOp → ℕ
one_cycles (Reg r) op = by_operation op (Reg r) 3 4
one_cycles (Const c) op = by_operation op (Const c) 3 4
one_cycles (Indirect r) op = by_operation op (Indirect r) 4 4
one_cycles (Increment r) op = by_operation op (Increment r) 5 5
one_cycles (Imm x) op = by_operation op (Imm x) 4 5
one_cycles a op = by_operation op a 5 5

-- the cycles of an instruction; of a unit instruction those that it takes at least
unfoldable pub cycles_of : Insn → ℕ
cycles_of (Two op w s d) = two_cycles s d
cycles_of (One op w a) = one_cycles a op
cycles_of (Jump condition offset) = 2
cycles_of Reti = 5
cycles_of (UnitOp name) = 6
