use Rattle.owner_steps.proofs.Running.{trace_there}
use Rattle.owner_steps.proofs.laws.trace_is_there.Goals as goal

pub returns : goal.returns
returns c = record { there = trace_there }
