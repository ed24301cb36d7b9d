use Rattle.std.proofs.Common.{◌≡◌, All, IsSome, length}
use Rattle.pool_runs.proofs.tests.write_all.Given as goal

abbrev pub invariant-loop-t : goal.invariant-loop-t
invariant-loop-t l = record {
  live : All (λ table. IsSome table) l.pool;
  tables : length l.pool ≡ 17;
}
