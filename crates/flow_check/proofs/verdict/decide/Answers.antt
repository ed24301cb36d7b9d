use Rattle.flow_check.specs.internal.Programs.{flow}
use Rattle.flow_check.proofs.Verdicts.{decided_rest}
use Rattle.flow_check.proofs.verdict.decide.Goals as goal

pub returns : goal.returns
returns c = λ start begin rests.
    decided_rest (flow c.args.program.now) start begin c.args.all.now c.least_of.result c.verdict_of.result c.requires.fit c.verdict_of.ensures c.least_of.ensures rests
