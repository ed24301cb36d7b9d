use Rattle.layout_file.proofs.ClashLemmas.{overlaps-named}
use Rattle.layout_file.proofs.laws.overlaps_are_first.Goals as goal

pub returns : goal.returns
returns c = record { lowest = overlaps-named c.args.regions.now }
