use Rattle.linker_laws.proofs.Places.{items_lie, lies_inside, lie_apart, lies_aligned}
use Rattle.linker_laws.proofs.all_lies_apart.Goals as goal

pub returns : goal.returns
returns c = record { items = items_lie; inside = lies_inside; apart = lie_apart; aligned = lies_aligned }
