use Rattle.std.proofs.Common.{◌∙◌}
use Rattle.monitor.proofs.Pieces.{refused_found, refused_next}
use Rattle.monitor.proofs.showing.first_refusal.Goals as goal

pub returns-in-Data : goal.returns-in-Data
returns-in-Data c rest = c.loop-i.invariant rest ∙ refused_found c.args.table.now c.args.addr c.args.count c.loop-i.i c.in-Data.id rest c.loop-i-test.true c.in-Data.ensures.place

pub loop-i-preserved : goal.loop-i-preserved
loop-i-preserved c rest = c.loop-i.invariant rest ∙ refused_next c.args.table.now c.args.addr c.args.count c.loop-i.i c.at.result rest c.loop-i-test.true c.at.ensures.place c.in_default.not-Data
