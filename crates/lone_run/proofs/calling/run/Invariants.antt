use Rattle.std.proofs.Common.{◌-◌}
use Rattle.lone_run.specs.Jobs.{lone_between}
use Rattle.lone_run.specs.internal.Jobs.{lone_call}
use Rattle.lone_run.proofs.Calls.{At}
use Rattle.lone_run.proofs.calling.run.Given as goal

abbrev pub invariant-loop-core : goal.invariant-loop-core
invariant-loop-core l = At (lone_call l.job) (lone_between l.fn.entry l.fn.ram) l.limit l.core l.ram l.cycles

abbrev pub decreases-loop-core : goal.decreases-loop-core
decreases-loop-core l = l.limit - l.cycles
