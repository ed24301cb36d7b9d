use Rattle.lone_run.specs.internal.Jobs.{lone_call}
use Rattle.lone_run.proofs.Plain.{plain_aligned}
use Rattle.lone_run.proofs.acting.do_plain.Goals as goal

pub execute-cycles-requires-clause-aligned : goal.execute-cycles-requires-clause-aligned
execute-cycles-requires-clause-aligned c = plain_aligned (lone_call c.args.job.now) c.args.insn.now c.args.core.now c.requires.no_unit c.requires.inside
