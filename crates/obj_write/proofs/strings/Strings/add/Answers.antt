use Rattle.std.proofs.Common.{arith}
use Rattle.std.proofs.lemmas.Grind.{common_steps}
use Rattle.obj_write.proofs.TableLemmas.{names_more}
use Rattle.obj_write.proofs.strings.Strings.add.Goals as goal

pub returns : goal.returns
returns c = λ names is. names_more names c.args.first.now c.args.rest.now c.args.self.now (record { bytes = c.push-2.new.self; places = c.push.new.self })
    (grind (arith, common_steps)) (grind (arith, common_steps)) is
