use Rattle.insn_decode.proofs.FormFacts.{decoded_form}
use Rattle.insn_decode.proofs.text.show.Goals as goal

pub push_insn-requires-clause-form : goal.push_insn-requires-clause-form
push_insn-requires-clause-form c = decoded_form c.args.insn.now c.requires.decoded
