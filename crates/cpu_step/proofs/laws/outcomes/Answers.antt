use Rattle.cpu_step.proofs.LoneLemmas.{one_end}
use Rattle.cpu_step.proofs.laws.outcomes.Goals as goal

pub returns : goal.returns
returns c = record { end = one_end }
