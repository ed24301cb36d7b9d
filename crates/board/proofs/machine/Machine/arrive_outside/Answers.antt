use Rattle.std.proofs.Common.{◌∙◌, ap}
use Rattle.devices.specs.Bus.{BusState}
use Rattle.board.specs.declared.port.Surroundings.{Surroundings}
use Rattle.board.specs.internal.Standing.{lasting_of}
use Rattle.board.proofs.Lasting.{accepted_schedule, lasting_by, port_lasting}
use Rattle.board.proofs.machine.Machine.arrive_outside.Goals as goal

pub returns-clause-lasting : goal.returns-clause-lasting
returns-clause-lasting c =
    let m = c.args.self.now in
    let marked = λ (p : Surroundings). p.memory.marked in
    let room = λ (p : Surroundings). p.memory.room in
    lasting_by c.push_plain.new.self c.accept.new.self.devices (ap (λ (b : BusState). b.devices.schedule) c.accept.ensures.bus ∙ accepted_schedule _ c.args.vector)
    ∙ ap lasting_of c.push_plain.ensures
    ∙ port_lasting m c.write.new.self c.write-2.new.self c.write-2.ensures.schedule (ap marked c.write-2.ensures.state) (ap room c.write-2.ensures.state)
    ∙ port_lasting m m.port c.write.new.self c.write.ensures.schedule (ap marked c.write.ensures.state) (ap room c.write.ensures.state)
