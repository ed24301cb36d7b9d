use Rattle.std.proofs.Common.{◌≡◌, ◌+◌, ◌-◌}
use Rattle.attest.specs.Units.{each_byte}
use Rattle.cpu_step.specs.Lone.{all_inside}
use Rattle.lone_run.specs.internal.Jobs.{lone_call}
use Rattle.lone_run.proofs.next.has_bytes.Given as goal

abbrev pub invariant-loop-k : goal.invariant-loop-k
invariant-loop-k l = all_inside (lone_call l.job) (each_byte l.kind l.start l.count) ≡ all_inside (lone_call l.job) (each_byte l.kind (l.start + l.k) (l.count - l.k))
