use Rattle.std.proofs.Common.{sym}
use Rattle.devices.proofs.Still.{ticked_by-lines}
use Rattle.devices.proofs.lines.LinesDevice.skip.Goals as goal

pub returns-clause-state : goal.returns-clause-state
returns-clause-state c = sym (ticked_by-lines c.args.n 0 c.args.self.now)
