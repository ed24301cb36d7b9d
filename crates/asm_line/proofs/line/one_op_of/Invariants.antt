use Rattle.std.proofs.Common.{◌≡◌, drop}
use Rattle.std.specs.Prelude.{find}
use Rattle.std.specs.Str.{bytes_eq}
use Rattle.insn_decode.specs.Code.{one_ops}
use Rattle.insn_decode.specs.Text.{one_name}
use Rattle.asm_line.proofs.line.one_op_of.Given as goal

-- no operation so far has the name
abbrev pub invariant-loop-op : goal.invariant-loop-op
invariant-loop-op l = find (λ op. bytes_eq l.base (one_name op)) (drop l.op-index one_ops) ≡ find (λ op. bytes_eq l.base (one_name op)) one_ops
