use Rattle.devices.proofs.FourBits.{bit_and-with_bit}
use Rattle.devices.proofs.bits.with_clear.Goals as goal

pub returns-clause-bit : goal.returns-clause-bit
returns-clause-bit c = bit_and-with_bit c.args.bits c.args.n c.requires.bits c.requires.bit
