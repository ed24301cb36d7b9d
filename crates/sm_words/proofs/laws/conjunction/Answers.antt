use Rattle.sm_words.proofs.Bits.{bit-and}
use Rattle.sm_words.proofs.laws.conjunction.Goals as goal

pub returns : goal.returns
returns c = record { bits = bit-and _ _ }
