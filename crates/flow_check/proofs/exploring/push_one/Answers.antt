use Rattle.std.proofs.Common.{◌∙◌, ap, ◌∷◌, []}
use Rattle.flow_check.specs.internal.Points.{list_of, points_at}
use Rattle.flow_check.specs.internal.Exploring.{held_point}
use Rattle.flow_check.proofs.Holdings.{push_more}
use Rattle.flow_check.proofs.exploring.push_one.Goals as goal

pub returns : goal.returns
returns c = λ rest.
    push_more c.args.to_come.now.items c.push.new.self.items c.move_to.new.held c.args.to rest (list_of c.args.call_string.now) (held_point c.args.held.now).state c.in_ok-push.ensures.items
    (c.move_to.ensures ∙ ap (λ x. points_at (c.args.to ∷ []) (list_of c.args.call_string.now) x.state) c.in_ok-next.ensures)
