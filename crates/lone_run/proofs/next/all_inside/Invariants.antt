use Rattle.std.proofs.Common.{◌≡◌, drop}
use Rattle.cpu_step.specs.Lone.{all_inside}
use Rattle.lone_run.specs.internal.Jobs.{lone_call}
use Rattle.lone_run.proofs.next.all_inside.Given as goal

abbrev pub invariant-loop-access : goal.invariant-loop-access
invariant-loop-access l = all_inside (lone_call l.job) l.accesses ≡ all_inside (lone_call l.job) (drop l.access-index l.accesses)
