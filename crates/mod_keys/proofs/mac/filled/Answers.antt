-- What is left of the zeros past the bytes copied.
use Rattle.std.proofs.Common.{ap, ◌++◌}
use Rattle.std.proofs.lemmas.List.{drop-replicate}
use Rattle.mod_keys.proofs.mac.filled.Goals as goal

pub returns : goal.returns
returns c = rw c.copy_from_slice.ensures.after (ap (λ t. c.args.front.now ++ t) (drop-replicate _ 64 0))
