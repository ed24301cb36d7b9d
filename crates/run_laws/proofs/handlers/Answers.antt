use Rattle.run_laws.proofs.Padding.{handler_after, hidden_before}
use Rattle.run_laws.proofs.handlers.Goals as goal

pub returns : goal.returns
returns c = record { after = handler_after; before = hidden_before }
