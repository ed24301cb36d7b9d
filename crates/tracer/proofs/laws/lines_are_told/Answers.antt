use Rattle.tracer.proofs.Told.{told}
use Rattle.tracer.proofs.laws.lines_are_told.Goals as goal

pub returns : goal.returns
returns c = record { told = told }
