use Rattle.std.proofs.Common.{◌≡◌, take, fold}
use Rattle.std.specs.Prelude.{replicate}
use Rattle.sm_cli.specs.Pairs.{set}
use Rattle.sm_cli.proofs.pairs.core_with.Given as goal

abbrev pub invariant-loop-pair : goal.invariant-loop-pair
invariant-loop-pair l = l.core ≡ fold set (replicate 16 0) (take l.pair-index l.pairs)
