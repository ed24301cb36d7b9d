use Rattle.asm_text.proofs.KeyLemmas.{entry_more}
use Rattle.asm_text.proofs.names.insert.Goals as goal

pub returns : goal.returns
returns c = λ q. entry_more c.args.numbers.now c.insert.new.self c.args.name.now q c.args.number c.in_ok-insert.ensures.updates
