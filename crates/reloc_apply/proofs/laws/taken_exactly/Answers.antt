use Rattle.reloc_apply.proofs.AppliesLemmas.{taken_exactly}
use Rattle.reloc_apply.proofs.SetsLemmas.{sets_field}
use Rattle.reloc_apply.proofs.laws.taken_exactly.Goals as goal

pub returns : goal.returns
returns c = record { exactly = taken_exactly; sets = sets_field }
