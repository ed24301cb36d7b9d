use Rattle.std.proofs.Common.{◌≡◌, drop}
use Rattle.sm_cli.specs.Pairs.{are_different}
use Rattle.sm_cli.proofs.pairs.are_different.Given as goal

abbrev pub invariant-loop-place : goal.invariant-loop-place
invariant-loop-place l = are_different (drop l.place l.pairs) ≡ are_different l.pairs
