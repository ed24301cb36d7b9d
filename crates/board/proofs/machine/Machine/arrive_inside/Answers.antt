use Rattle.std.proofs.Common.{◌∙◌, ap}
use Rattle.devices.specs.Bus.{BusState}
use Rattle.board.proofs.Lasting.{accepted_schedule, lasting_by}
use Rattle.board.proofs.machine.Machine.arrive_inside.Goals as goal

pub returns-clause-lasting : goal.returns-clause-lasting
returns-clause-lasting c =
    lasting_by c.args.self.now c.accept.new.self.devices (ap (λ (b : BusState). b.devices.schedule) c.accept.ensures.bus ∙ accepted_schedule _ c.args.vector)
