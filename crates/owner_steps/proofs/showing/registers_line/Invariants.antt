use Rattle.std.proofs.Common.{◌≡◌, ◌*◌, ◌≤◌}
use Rattle.arrayvec.specs.ArrayString.{array_string_len}
use Rattle.owner_steps.specs.Registers.{changed_registers}
use Rattle.owner_steps.proofs.showing.registers_line.Given as goal

abbrev pub invariant-loop-n : goal.invariant-loop-n
invariant-loop-n l = record {
  text : l.text.bytes ≡ changed_registers l.old l.new l.n;
  long : array_string_len l.text ≤ 10 * l.n;
}
