use Rattle.std.proofs.Common.{◌≡◌, ◌+◌, ◌*◌, ◌++◌}
use Rattle.arrayvec.specs.ArrayString.{array_string_len}
use Rattle.tracer.specs.Lines.{registers_from}
use Rattle.monitor.proofs.showing.push_registers.Given as goal

abbrev pub invariant-loop-n : goal.invariant-loop-n
invariant-loop-n l = record {
  text : l.out.bytes ≡ l.initial.out.bytes ++ registers_from l.view.state.core 0 l.n;
  length_so_far : array_string_len l.out ≡ array_string_len l.initial.out + 5 * l.n;
}
