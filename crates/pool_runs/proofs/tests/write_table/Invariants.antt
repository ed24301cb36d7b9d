use Rattle.std.proofs.Common.{◌≡◌, All, IsSome, length}
use Rattle.pool_runs.proofs.tests.write_table.Given as goal

abbrev pub invariant-loop-n : goal.invariant-loop-n
invariant-loop-n l = record {
  live : All (λ table. IsSome table) l.pool;
  tables : length l.pool ≡ 17;
}
