use Rattle.std.proofs.Common.{◌≡◌, replicate, false}
use Rattle.page_pool.proofs.store.unused_tables.Given as goal

abbrev pub invariant-loop : goal.invariant-loop
invariant-loop l = l.tables.items ≡ replicate l.counter record { is_live = false; places = replicate 256 0 }
