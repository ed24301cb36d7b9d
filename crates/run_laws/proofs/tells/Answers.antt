use Rattle.run_laws.proofs.Told.{cycle_few, stop_told}
use Rattle.run_laws.proofs.Refused.{refused_told}
use Rattle.run_laws.proofs.tells.Goals as goal

pub returns : goal.returns
returns c = record { few = λ s. cycle_few s.stop s; stop = stop_told; refused = refused_told }
