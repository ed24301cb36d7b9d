use Rattle.terms_file.proofs.ReadingBack.{are_read_back}
use Rattle.terms_file.proofs.laws.terms_are_read_back.Goals as goal

pub returns : goal.returns
returns c = record { read = are_read_back }
