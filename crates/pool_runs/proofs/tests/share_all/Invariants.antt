use Rattle.std.proofs.Common.{◌≡◌, length}
use Rattle.page_pool.specs.Tables.{IsLive}
use Rattle.pool_runs.proofs.tests.share_all.Given as goal

abbrev pub invariant-loop : goal.invariant-loop
invariant-loop l = record {
  tables : length l.pool ≡ 17;
  first : IsLive l.pool 0;
}
