use Rattle.std.proofs.Common.{◌≡◌, ◌<◌, ◌≤◌, ℕ, length}
use Rattle.page_pool.specs.Tables.{IsLive}
use Rattle.pool_runs.proofs.tests.end_others.Given as goal

-- table 0 and those from here on are live
abbrev pub invariant-loop-t : goal.invariant-loop-t
invariant-loop-t l = record {
  tables : length l.pool ≡ 17;
  first : IsLive l.pool 0;
  later : (u : ℕ) → l.t ≤ u → u < 17 → IsLive l.pool u;
}
