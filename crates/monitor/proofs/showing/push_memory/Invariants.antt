use Rattle.std.proofs.Common.{◌≡◌, ◌+◌, ◌*◌, ◌++◌, ◌≤◌}
use Rattle.arrayvec.specs.ArrayString.{array_string_len}
use Rattle.written_machine.specs.Script.{bytes_text}
use Rattle.written_machine.specs.View.{view_of}
use Rattle.monitor.proofs.showing.push_memory.Given as goal

abbrev pub invariant-loop-i : goal.invariant-loop-i
invariant-loop-i l = record {
  text : l.out.bytes ≡ l.initial.out.bytes ++ bytes_text (view_of l.view.state l.view.hidden) l.addr l.i;
  length_so_far : array_string_len l.out ≤ array_string_len l.initial.out + 2 * l.i;
}
