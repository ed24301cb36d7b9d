use Rattle.std.proofs.Common.{◌≡◌, ◌++◌, Some, None, take, drop, replicate}
use Rattle.std.proofs.Math.ListN.{set}
use Rattle.page_pool.specs.Tables.{zeros}
use Rattle.mem_map.proofs.filled.Given as goal

-- the bytes below the address are put
abbrev pub invariant-loop-addr : goal.invariant-loop-addr
invariant-loop-addr l = l.pool ≡ set (replicate l.fn.tables None) 0 (Some (take l.addr l.bytes ++ drop l.addr (zeros 65536)))
