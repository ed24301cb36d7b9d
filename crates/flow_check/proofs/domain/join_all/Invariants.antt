use Rattle.std.proofs.Common.{◌≡◌, ◌++◌, length, take, drop, false, true, ◌≤◌, ◌<◌}
use Rattle.flow_rule.specs.Values.{join_each}
use Rattle.flow_check.specs.internal.Weights.{weight_all}
use Rattle.flow_check.proofs.domain.join_all.Given as goal

abbrev pub invariant-loop-i : goal.invariant-loop-i
invariant-loop-i l =
    (length l.into ≡ length l.from)
    × (join_each l.fn.into l.from ≡ take l.i l.into ++ join_each (drop l.i l.into) (drop l.i l.from))
    × (l.changed ≡ false → l.into ≡ l.fn.into)
    × (weight_all l.fn.into ≤ weight_all l.into)
    × (l.changed ≡ true → weight_all l.fn.into < weight_all l.into)
