use Rattle.std.proofs.Common.{◌≡◌, [], drop}
use Rattle.flow_laws.specs.Exploring.{is_known}
use Rattle.flow_check.specs.internal.Exploring.{held_point, stacked}
use Rattle.flow_check.proofs.exploring.is_known.Given as goal

abbrev pub invariant-loop-one : goal.invariant-loop-one
invariant-loop-one l = is_known (stacked l.kept []) (held_point l.held) ≡ is_known (stacked (drop l.one-index l.kept) []) (held_point l.held)
