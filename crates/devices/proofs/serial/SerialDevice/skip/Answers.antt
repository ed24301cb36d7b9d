use Rattle.std.proofs.Common.{sym, ◌∙◌, ap, None}
use Rattle.devices.specs.Parts.{SerialPart, serial_alone}
use Rattle.devices.proofs.Still.{ticked_by-serial}
use Rattle.devices.proofs.serial.SerialDevice.skip.Goals as goal

pub returns-then-n-gt0-clause-state : goal.returns-then-n-gt0-clause-state
returns-then-n-gt0-clause-state c =
    ap (λ (s : SerialPart). serial_alone (record s { sent = None })) c.self.view_is ∙ sym (ticked_by-serial c.args.n 0 c.args.self.now c.if-n-gt0.true)
