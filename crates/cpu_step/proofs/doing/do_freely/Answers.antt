use Rattle.std.proofs.Common.{subst}
use Rattle.cpu_step.specs.Plan.{plan}
use Rattle.cpu_step.specs.Through.{AreAligned}
use Rattle.cpu_step.proofs.doing.do_freely.Goals as goal

pub do_two-requires : goal.do_two-requires
do_two-requires g c = record { aligned = subst (λ x. AreAligned (plan x c.args.core.now)) c.in-Two.is c.requires.aligned }

pub do_one-requires : goal.do_one-requires
do_one-requires g c = record { aligned = subst (λ x. AreAligned (plan x c.args.core.now)) c.in-One.is c.requires.aligned }
