use Rattle.std.proofs.Common.{sym, subst}
use Rattle.std.specs.List.Sorted.{IsNonDecreasing}
use Rattle.std.proofs.lemmas.List.Sorted.{IsNonDecreasingBy-from_sort}
use Rattle.flow_check.specs.internal.Labellings.{Listed}
use Rattle.flow_check.proofs.Marked.{listed_fewer, listed_sorted}
use Rattle.flow_check.proofs.Placing.{placed_points}
use Rattle.flow_check.proofs.labelling.Labelling.take_changed.Goals as goal

pub take_marks-requires-clause-ascending : goal.take_marks-requires-clause-ascending
take_marks-requires-clause-ascending c =
    subst IsNonDecreasing (sym c.as_slice.ensures.value) (IsNonDecreasingBy-from_sort (λ x. x) c.sort_unstable.new.self.items c.sort_unstable.ensures.sorted)

pub take_marks-requires-clause-listed : goal.take_marks-requires-clause-listed
take_marks-requires-clause-listed c =
    subst (Listed c.self.inside.nodes.items) (sym c.as_slice.ensures.value)
    (listed_sorted c.self.inside.nodes.items c.self.inside.worklist.items c.sort_unstable.new.self.items c.sort_unstable.ensures.permutation c.self.invariant.1)

pub invariant_of-self : goal.invariant_of-self
invariant_of-self c = (
  placed_points c.self.inside.nodes.items c.take_marks.new.nodes.items c.self.inside.places c.take_marks.ensures.points c.self.invariant.0,
  listed_fewer c.self.inside.nodes.items c.take_marks.new.nodes.items c.sort_unstable.new.self.items c.take_marks.ensures.fewer
      (listed_sorted c.self.inside.nodes.items c.self.inside.worklist.items c.sort_unstable.new.self.items c.sort_unstable.ensures.permutation c.self.invariant.1),
)
