use Rattle.devices.proofs.Still.{line_of-serial}
use Rattle.devices.proofs.serial.SerialDevice.quiet.Goals as goal

pub returns-clause-stays : goal.returns-clause-stays
returns-clause-stays c n few = line_of-serial n 0 c.args.self.now
