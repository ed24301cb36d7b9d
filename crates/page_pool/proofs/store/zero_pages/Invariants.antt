use Rattle.std.proofs.Common.{◌≡◌, replicate}
use Rattle.page_pool.proofs.store.zero_pages.Given as goal

abbrev pub invariant-loop : goal.invariant-loop
invariant-loop l = l.pages.items ≡ replicate l.counter (replicate 256 0)
