use Rattle.std.proofs.Common.{◌≡◌, drop}
use Rattle.std.specs.Prelude.{find}
use Rattle.std.specs.Str.{bytes_eq}
use Rattle.insn_decode.specs.Code.{conditions}
use Rattle.insn_decode.specs.Text.{jump_name}
use Rattle.asm_line.proofs.line.condition_of.Given as goal

-- no condition so far has the name
abbrev pub invariant-loop-condition : goal.invariant-loop-condition
invariant-loop-condition l = find (λ condition. bytes_eq l.word (jump_name condition)) (drop l.condition-index conditions) ≡ find (λ condition. bytes_eq l.word (jump_name condition)) conditions
