use Rattle.isolation.proofs.Costs.{costs}
use Rattle.isolation.proofs.cost.Goals as goal

pub returns : goal.returns
returns c = record { cycles = λ a schedule m owner k from n u ending. costs a m owner schedule k from u.image u.enters u.owned n u.no_end ending }
