use Rattle.std.proofs.Common.{◌≡◌, All, true, take}
use Rattle.page_pool.proofs.store.Store.unused.Given as goal

abbrev pub invariant-loop-t : goal.invariant-loop-t
invariant-loop-t l = All (λ t. t.is_live ≡ true) (take l.t l.self.tables.items)
