-- Each instruction of the table takes a cycle at least, and six at most.
use Rattle.std.proofs.Common.{◌≤◌, ℕ, arith, cond, true, false, Bool, ◌==◌}
use Rattle.sm_words.specs.declared.registers.TheConstants.{PC}
use Rattle.insn_decode.specs.declared.insn.OneOp.{OneOp}
use Rattle.insn_decode.specs.declared.insn.OneOp.TheVariants.{Push, Call}
use Rattle.insn_decode.specs.declared.insn.Operand.{Operand}
use Rattle.insn_decode.specs.declared.insn.Operand.TheVariants.{Reg, Const, Imm, Indirect, Increment}
use Rattle.cycle_table.specs.Cycles.{by_place, two_cycles, in_place, by_operation, one_cycles}

-- what holds of each number of a row holds of the one that is taken
placed : (P : ℕ → Type 0) (d : Operand) (register pc memory : ℕ) → P register → P pc → P memory → P (by_place d register pc memory)
placed P (Reg r) register pc memory a b c = by (r == PC)
  where
    by : (x : Bool) → P (cond x pc register)
    by true = b
    by false = a
placed P _ register pc memory a b c = c

rows : (P : ℕ → Type 0) (s d : Operand) → P 1 → P 2 → P 3 → P 4 → P 5 → P 6 → P (two_cycles s d)
rows P (Reg r) d a b c e f g = placed P d 1 2 4 a b e
rows P (Const n) d a b c e f g = placed P d 1 2 4 a b e
rows P (Indirect r) d a b c e f g = placed P d 2 2 5 b b f
rows P (Increment r) d a b c e f g = placed P d 2 3 5 b c f
rows P (Imm x) d a b c e f g = placed P d 2 3 5 b c f
rows P _ d a b c e f g = placed P d 3 3 6 c c g

pub two_least : (s d : Operand) → 1 ≤ two_cycles s d
two_least s d = rows (λ n. 1 ≤ n) s d (omega arith) (omega arith) (omega arith) (omega arith) (omega arith) (omega arith)

pub two_most : (s d : Operand) → two_cycles s d ≤ 6
two_most s d = rows (λ n. n ≤ 6) s d (omega arith) (omega arith) (omega arith) (omega arith) (omega arith) (omega arith)

-- an operation in place takes 1, 3 or 4
places : (P : ℕ → Type 0) (a : Operand) → P 1 → P 3 → P 4 → P (in_place a)
places P (Reg r) b c e = b
places P (Const n) b c e = c
places P (Indirect r) b c e = c
places P (Increment r) b c e = c
places P _ b c e = e

operations : (P : ℕ → Type 0) (op : OneOp) (a : Operand) (push call : ℕ) → P 1 → P 3 → P 4 → P push → P call → P (by_operation op a push call)
operations P Push a push call b c e f g = f
operations P Call a push call b c e f g = g
operations P _ a push call b c e f g = places P a b c e

one_rows : (P : ℕ → Type 0) (a : Operand) (op : OneOp) → P 1 → P 3 → P 4 → P 5 → P (one_cycles a op)
one_rows P (Reg r) op b c e f = operations P op (Reg r) 3 4 b c e c e
one_rows P (Const n) op b c e f = operations P op (Const n) 3 4 b c e c e
one_rows P (Indirect r) op b c e f = operations P op (Indirect r) 4 4 b c e e e
one_rows P (Increment r) op b c e f = operations P op (Increment r) 5 5 b c e f f
one_rows P (Imm x) op b c e f = operations P op (Imm x) 4 5 b c e e f
one_rows P a op b c e f = operations P op a 5 5 b c e f f

pub one_least : (a : Operand) (op : OneOp) → 1 ≤ one_cycles a op
one_least a op = one_rows (λ n. 1 ≤ n) a op (omega arith) (omega arith) (omega arith) (omega arith)

pub one_most : (a : Operand) (op : OneOp) → one_cycles a op ≤ 6
one_most a op = one_rows (λ n. n ≤ 6) a op (omega arith) (omega arith) (omega arith) (omega arith)
