use Rattle.std.proofs.Common.{◌≡◌, ◌++◌, ◌∷◌, [], length, ap, sym, ◌∙◌, subst, arith, true, Some}
use Rattle.flow_check.specs.declared.labelling.Node.{Node}
use Rattle.flow_check.specs.internal.Points.{program_point}
use Rattle.flow_check.specs.internal.Labellings.{Absent, Listed, point_place}
use Rattle.flow_check.proofs.Marked.{listed_push}
use Rattle.flow_check.proofs.Placing.{placed_push}
use Rattle.flow_check.proofs.labelling.Labelling.add.Goals as goal

pub invariant_of-self-2 : goal.invariant_of-self-2
invariant_of-self-2 c =
    let ns = c.self.inside.nodes.items in
    let listed = c.self.inside.worklist.items in
    let p = c.args.point.now in
    let new : Node = record { point = p; changed = true } in
    let none = subst (Absent (program_point p)) (sym c.self.view_is) c.requires in
    let here : c.len-at.result ≡ length ns = omega (arith, c.len-at.ensures) in
    let noted : point_place c.note_place.new.places (program_point p) ≡ Some (length ns) = c.in_ok-note_place.ensures.noted ∙ ap (λ k. Some k) here in
    let placed = placed_push ns c.note_place.new.places p noted (c.note_place.ensures.placed ns none c.self.invariant.0) in
    rw c.in_ok-push-2.ensures.items (placed, rw c.in_ok-push.ensures.items (subst (λ k. Listed (ns ++ new ∷ []) (listed ++ k ∷ [])) (sym here) (listed_push ns listed new c.self.invariant.1)))
