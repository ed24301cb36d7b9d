use Rattle.run_laws.proofs.Passes.{passes}
use Rattle.run_laws.proofs.passing.Goals as goal

pub returns : goal.returns
returns c = record { leads = passes }
