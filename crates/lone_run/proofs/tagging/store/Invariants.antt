use Rattle.std.proofs.Common.{◌≡◌, ◌+◌, ◌-◌, drop}
use Rattle.pc_access.specs.declared.Kind.TheVariants.{Write}
use Rattle.attest.specs.Units.{each_byte}
use Rattle.cpu_step.specs.Lone.{lone_writes}
use Rattle.lone_run.proofs.tagging.store.Given as goal

abbrev pub invariant-loop-k : goal.invariant-loop-k
invariant-loop-k l = lone_writes l.owner l.fn.ram (each_byte Write l.start 16) l.tag ≡ lone_writes l.owner l.ram (each_byte Write (l.start + l.k) (16 - l.k)) (drop l.k l.tag)
