use Rattle.std.proofs.Common.{◌∙◌, ap}
use Rattle.devices.specs.Devices.{Devices}
use Rattle.board.proofs.Lasting.{lasting_by, ticked_by_schedule}
use Rattle.board.proofs.machine.Machine.pass_by.Goals as goal

pub returns-in-Pad-clause-lasting : goal.returns-in-Pad-clause-lasting
returns-in-Pad-clause-lasting c = lasting_by c.args.self.now c.skip.new.self.devices (ap (λ (d : Devices). d.schedule) c.skip.ensures.state ∙ ticked_by_schedule c.args.cycles _ _)

pub returns-in-Run-clause-lasting : goal.returns-in-Run-clause-lasting
returns-in-Run-clause-lasting c = lasting_by c.args.self.now c.skip.new.self.devices (ap (λ (d : Devices). d.schedule) c.skip.ensures.state ∙ ticked_by_schedule c.args.cycles _ _)
