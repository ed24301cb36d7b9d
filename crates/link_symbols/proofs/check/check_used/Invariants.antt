use Rattle.std.proofs.Common.{◌≡◌, drop}
use Rattle.link_symbols.specs.Passes.{first_at}
use Rattle.link_symbols.specs.internal.Meanings.{gap_at}
use Rattle.link_symbols.proofs.check.check_used.Given as goal

abbrev pub invariant-loop-k : goal.invariant-loop-k
invariant-loop-k l = first_at (gap_at l.number l.object.relocations) 0 l.meanings ≡ first_at (gap_at l.number l.object.relocations) l.k (drop l.k l.meanings)
