use Rattle.std.proofs.Common.{◌≡◌, ◌++◌, length, take, drop}
use Rattle.flow_check.specs.internal.Summaries.{overlay}
use Rattle.flow_check.proofs.domain.overlay.Given as goal

abbrev pub invariant-loop-i : goal.invariant-loop-i
invariant-loop-i l =
    (length l.told ≡ length l.into)
    × (overlay l.told l.fn.into ≡ take l.i l.into ++ overlay (drop l.i l.told) (drop l.i l.into))
