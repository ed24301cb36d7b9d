use Rattle.std.proofs.Common.{arith}
use Rattle.std.proofs.lemmas.Grind.{common_steps}
use Rattle.obj_write.proofs.TableLemmas.{sections_more}
use Rattle.obj_write.proofs.sections.Sections.add.Goals as goal

pub returns : goal.returns
returns c = λ sections are. sections_more sections c.args.head c.args.content.now c.args.self.now (record { contents = c.put_padded.new.out; heads = c.push.new.self })
    (grind (arith, common_steps)) (grind (arith, common_steps)) are
