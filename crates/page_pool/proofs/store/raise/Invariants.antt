use Rattle.std.proofs.Common.{◌≡◌, length}
use Rattle.page_pool.proofs.LoopLemmas.{Raised}
use Rattle.page_pool.proofs.store.raise.Given as goal

abbrev pub invariant-loop-place : goal.invariant-loop-place
invariant-loop-place l = Raised l.fn.counts.items l.counts.items l.places l.place-index × (length l.counts.items ≡ length l.fn.counts.items)
