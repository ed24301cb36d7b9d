use Rattle.std.proofs.Common.{◌≡◌, ◌+◌, ◌*◌, ◌++◌}
use Rattle.arrayvec.specs.ArrayString.{array_string_len}
use Rattle.tracer.specs.Lines.{registers_from}
use Rattle.sm_cli.proofs.commands.lone.push_registers.Given as goal

abbrev pub invariant-loop-number : goal.invariant-loop-number
invariant-loop-number l = record {
  text : l.line.bytes ≡ l.initial.line.bytes ++ registers_from l.core 0 l.number;
  length_so_far : array_string_len l.line ≡ array_string_len l.initial.line + 5 * l.number;
}
