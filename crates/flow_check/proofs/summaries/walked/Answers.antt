use Rattle.flow_check.proofs.Subsuming.{walked_open}
use Rattle.flow_check.proofs.summaries.walked.Goals as goal

pub returns-then-is_none-clause-is : goal.returns-then-is_none-clause-is
returns-then-is_none-clause-is c =
    walked_open c.args.program.now c.args.site.now c.args.pc c.new.result c.args.state.now c.blank_state-told.result c.walk_arms.new.told c.walk_arms.new.least c.new.ensures c.blank_state-told.ensures
    c.walk_arms.ensures.least c.walk_arms.ensures.told c.if-is_none.ensures
