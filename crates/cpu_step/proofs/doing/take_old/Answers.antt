use Rattle.cpu_step.proofs.ThroughLemmas.{old_read}
use Rattle.cpu_step.proofs.doing.take_old.Goals as goal

pub returns-then-reads_destination-clause-value : goal.returns-then-reads_destination-clause-value
returns-then-reads_destination-clause-value g c =
    old_read g.P.Port.answer g.P.Port.after_read g.P.Port.after_write (g.P.Port.state c.args.port.now) c.args.op c.args.dst.operand c.args.dst.width c.args.core.now c.args.dst.place _ _
    c.reads_destination.ensures c.if-reads_destination.true c.take.ensures.value
