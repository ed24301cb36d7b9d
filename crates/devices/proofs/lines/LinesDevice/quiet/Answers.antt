use Rattle.std.proofs.Common.{ap}
use Rattle.devices.specs.Devices.{line_of}
use Rattle.devices.proofs.Still.{ticked_by-lines}
use Rattle.devices.proofs.lines.LinesDevice.quiet.Goals as goal

pub returns-clause-stays : goal.returns-clause-stays
returns-clause-stays c n few = ap line_of (ticked_by-lines n 0 c.args.self.now)
