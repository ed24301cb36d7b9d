use Rattle.std.proofs.Common.{◌≡◌, drop}
use Rattle.std.specs.Prelude.{find}
use Rattle.std.specs.Str.{bytes_eq}
use Rattle.insn_decode.specs.Code.{two_ops}
use Rattle.insn_decode.specs.Text.{two_name}
use Rattle.asm_line.proofs.line.two_op_of.Given as goal

-- no operation so far has the name
abbrev pub invariant-loop-op : goal.invariant-loop-op
invariant-loop-op l = find (λ op. bytes_eq l.base (two_name op)) (drop l.op-index two_ops) ≡ find (λ op. bytes_eq l.base (two_name op)) two_ops
