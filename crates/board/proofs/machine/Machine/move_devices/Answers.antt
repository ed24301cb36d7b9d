use Rattle.std.proofs.Common.{◌∙◌, ap}
use Rattle.devices.specs.Devices.{Devices}
use Rattle.board.proofs.Lasting.{lasting_by, ticked_schedule}
use Rattle.board.proofs.machine.Machine.move_devices.Goals as goal

pub returns-clause-lasting : goal.returns-clause-lasting
returns-clause-lasting c = lasting_by c.args.self.now c.tick.new.self.devices (ap (λ (d : Devices). d.schedule) c.tick.ensures.state ∙ ticked_schedule _ _)
