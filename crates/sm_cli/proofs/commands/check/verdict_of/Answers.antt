use Rattle.std.proofs.Common.{[], subst}
use Rattle.std.proofs.lemmas.Result.{IfOk-weaker}
use Rattle.flow_rule.specs.Arms.{VerdictWith}
use Rattle.sm_cli.proofs.commands.check.verdict_of.Goals as goal

pub returns : goal.returns
returns c = IfOk-weaker c.check.result _ _ (λ v h. subst (λ l. VerdictWith c.args.chosen.now.«module» l [] v) c.text_of.ensures.bytes h) c.check.ensures.verdict
