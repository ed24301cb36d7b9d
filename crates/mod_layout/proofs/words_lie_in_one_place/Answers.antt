use Rattle.mod_layout.proofs.TableLemmas.{one_place}
use Rattle.mod_layout.proofs.words_lie_in_one_place.Goals as goal

pub returns : goal.returns
returns c = record { place = λ t a ok even. one_place t a ok even }
