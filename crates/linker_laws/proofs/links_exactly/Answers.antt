use Rattle.linker_laws.proofs.Conditions
use Rattle.linker_laws.proofs.links_exactly.Goals as goal

pub returns : goal.returns
returns c = Conditions.links_exactly
