use Rattle.insn_decode.proofs.Table.{insn_means, means_insn}
use Rattle.insn_decode.proofs.laws.one_table.Goals as goal

pub returns-clause-found : goal.returns-clause-found
returns-clause-found c = insn_means

pub returns-clause-given : goal.returns-clause-given
returns-clause-given c w0 w1 w2 n insn m = (means_insn m).0
