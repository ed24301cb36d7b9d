use Rattle.devices.proofs.FourBits.{bit_or-with_bit, bit_or-small}
use Rattle.devices.proofs.bits.with_set.Goals as goal

pub returns-clause-bit : goal.returns-clause-bit
returns-clause-bit c = bit_or-with_bit c.args.bits c.args.n c.requires.bits c.requires.bit

pub returns-clause-bits : goal.returns-clause-bits
returns-clause-bits c = bit_or-small c.args.bits c.args.n c.requires.bits c.requires.bit
