use Rattle.std.proofs.Common.{arith}
use Rattle.std.proofs.lemmas.Bool.Decides.{nat_tests}
use Rattle.flow_check.proofs.Holdings.{less_none}
use Rattle.flow_check.proofs.exploring.less_at.Goals as goal

pub returns-in-None-clause-not : goal.returns-in-None-clause-not
returns-in-None-clause-not c = λ _. less_none c.args.i c.args.us.now c.args.vs.now c.requires.here (grind (arith, nat_tests, c.in-None.ensures.lookup.0))
