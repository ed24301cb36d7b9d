use Rattle.std.proofs.Common.{subst}
use Rattle.std.proofs.lemmas.Result.{IfOk-weaker}
use Rattle.flow_rule.specs.Arms.{VerdictWith}
use Rattle.sm_cli.proofs.commands.balance.verdict_with.Goals as goal

pub returns : goal.returns
returns c = IfOk-weaker c.check_with.result _ _ (λ v h. subst (λ l. VerdictWith c.args.chosen.now.«module» l c.args.arms.now.list.items v) c.text_of.ensures.bytes h) c.check_with.ensures.verdict
