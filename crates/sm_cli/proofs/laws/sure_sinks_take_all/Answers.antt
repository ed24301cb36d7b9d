use Rattle.std.proofs.Common.{arith}
use Rattle.sm_cli.proofs.laws.sure_sinks_take_all.Goals as goal

pub returns : goal.returns
returns g c = record {
  answers = λ call ended old new room served.
      let within = room served.command served.answer served.asked served.served in let past = served.text.not_sure in omega arith;
  lines = λ call ended old new room refused.
      let within = room refused.refused refused.name refused.cause.0 in let past = refused.line.not_sure in omega arith;
}
