use Rattle.std.proofs.Common.{◌≡◌, length}
use Rattle.page_pool.proofs.LoopLemmas.{Lowered}
use Rattle.page_pool.proofs.store.lower.Given as goal

abbrev pub invariant-loop-place : goal.invariant-loop-place
invariant-loop-place l = Lowered l.fn.counts.items l.counts.items l.places l.free.items l.spare l.place-index
    × (length l.counts.items ≡ length l.fn.counts.items) × (length l.free.items ≡ length l.fn.free.items)
