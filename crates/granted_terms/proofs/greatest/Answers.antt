use Rattle.granted_terms.proofs.Offering.{greatest_terms}
use Rattle.granted_terms.proofs.greatest.Goals as goal

pub returns : goal.returns
returns c = record { greatest = greatest_terms }
