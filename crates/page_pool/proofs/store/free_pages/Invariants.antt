use Rattle.std.proofs.Common.{◌≡◌, ◌-◌, ◌<◌, ℕ, length, get_or}
use Rattle.page_pool.proofs.store.free_pages.Given as goal

-- the pages so far, the highest first
abbrev pub invariant-loop-i : goal.invariant-loop-i
invariant-loop-i l = (length l.free.items ≡ l.i) × ((k : ℕ) → k < l.i → get_or l.free.items k 0 ≡ l.count - 1 - k)
