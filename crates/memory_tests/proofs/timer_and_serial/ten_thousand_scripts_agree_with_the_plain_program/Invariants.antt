use Rattle.std.proofs.Common.{◌≤◌, ◌*◌}
use Rattle.memory_tests.proofs.timer_and_serial.ten_thousand_scripts_agree_with_the_plain_program.Given as goal

abbrev pub invariant-loop-2 : goal.invariant-loop-2
invariant-loop-2 g l = l.bus.ticks ≤ 64 * l.counter
