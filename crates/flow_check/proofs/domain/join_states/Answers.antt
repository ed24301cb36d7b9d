use Rattle.std.proofs.Common.{arith, inl, inr}
use Rattle.flow_check.proofs.Weights.{joined_rises}
use Rattle.flow_check.proofs.domain.join_states.Goals as goal

pub returns-then-core-clause-rises : goal.returns-then-core-clause-rises
returns-then-core-clause-rises c = λ _.
    joined_rises c.args.into.now c.args.from.now c.join_all-core.new.into c.join_all-words.new.into (omega arith) (omega arith) c.join_all-core.ensures.joined c.join_all-words.ensures.joined
    c.join_all-core.ensures.above c.join_all-words.ensures.above (inl (c.join_all-core.ensures.rises c.if-core.true))

pub returns-else-core-clause-rises : goal.returns-else-core-clause-rises
returns-else-core-clause-rises c = λ words.
    joined_rises c.args.into.now c.args.from.now c.join_all-core.new.into c.join_all-words.new.into (omega arith) (omega arith) c.join_all-core.ensures.joined c.join_all-words.ensures.joined
    c.join_all-core.ensures.above c.join_all-words.ensures.above (inr (c.join_all-words.ensures.rises words))
