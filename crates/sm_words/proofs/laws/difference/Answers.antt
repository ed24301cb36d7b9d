use Rattle.sm_words.proofs.Bits.{bit-xor}
use Rattle.sm_words.proofs.laws.difference.Goals as goal

pub returns : goal.returns
returns c = record { bits = bit-xor _ _ }
