use Rattle.std.proofs.Common.{◌≡◌, ◌++◌}
use Rattle.flow_check.specs.internal.Points.{fronts_of, points_of}
use Rattle.flow_check.specs.internal.Labellings.{changed_points, Fewer}
use Rattle.flow_check.proofs.Marked.{ListedFrom}
use Rattle.flow_check.proofs.labelling.take_marks.Given as goal

abbrev pub invariant-loop-at : goal.invariant-loop-at
invariant-loop-at l =
    (points_of l.nodes.items ≡ points_of l.fn.nodes.items)
    × Fewer l.fn.nodes.items l.nodes.items
    × ListedFrom l.at-index l.nodes.items l.places
    × (fronts_of l.fn.front.items ++ changed_points l.fn.nodes.items ≡ fronts_of l.front.items ++ changed_points l.nodes.items)
