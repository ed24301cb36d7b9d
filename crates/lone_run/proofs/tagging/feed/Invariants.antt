use Rattle.std.proofs.Common.{ℕ, List, ◌++◌, map}
use Rattle.mod_keys.specs.Fed.{IsFed}
use Rattle.pc_access.specs.declared.Kind.TheVariants.{Read}
use Rattle.attest.specs.Units.{each_byte}
use Rattle.cpu_step.specs.Lone.{lone_read}
use Rattle.lone_run.specs.internal.Jobs.{lone_call}
use Rattle.lone_run.proofs.tagging.feed.Given as goal

abbrev pub invariant-loop-k : goal.invariant-loop-k
invariant-loop-k l = (key message : List ℕ) → IsFed l.fn.hmac key message → IsFed l.hmac key (message ++ map (lone_read (lone_call l.job) l.ram) (each_byte Read l.start l.k))
