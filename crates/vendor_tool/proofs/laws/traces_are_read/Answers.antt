use Rattle.vendor_tool.proofs.OwnLines.{traces_are_read}
use Rattle.vendor_tool.proofs.laws.traces_are_read.Goals as goal

pub returns : goal.returns
returns c = record { read = traces_are_read }
