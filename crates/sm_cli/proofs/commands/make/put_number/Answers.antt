use Rattle.std.proofs.Common.{◌++◌, codes, ℕ, List, ap, ◌∙◌}
use Rattle.sm_io.proofs.Putting.{puts_same}
use Rattle.sm_cli.proofs.commands.make.put_number.Goals as goal

pub returns : goal.returns
returns g c = puts_same g.O.Sink.taken g.O.Sink.faults g.O.Sink.sure _ _ _ _ _ (ap (λ (l : List ℕ). c.args.name.now ++ (l ++ codes "\n")) (c.as_bytes.ensures.value ∙ c.as_str.ensures.value ∙ c.decimal.ensures.text)) c.put_named.ensures
