use Rattle.std.proofs.Common.{◌≡◌, [], drop}
use Rattle.flow_laws.specs.Exploring.{on_top}
use Rattle.flow_check.specs.internal.Points.{list_of, points_at}
use Rattle.flow_check.specs.internal.Exploring.{held_point, stacked}
use Rattle.flow_check.proofs.exploring.push_each.Given as goal

abbrev pub invariant-loop-to : goal.invariant-loop-to
invariant-loop-to l =
    on_top (points_at l.targets (list_of l.call_string) (held_point l.held).state) (stacked l.fn.to_come.items [])
    ≡ on_top (points_at (drop l.to-index l.targets) (list_of l.call_string) (held_point l.held).state) (stacked l.to_come.items [])
