use Rattle.std.proofs.Common.{◌≡◌, ◌∙◌, sym, ap, arith, length, []}
use Rattle.flow_laws.specs.Exploring.{on_top}
use Rattle.flow_check.specs.internal.Points.{list_of, points_at}
use Rattle.flow_check.specs.internal.Exploring.{held_point, stacked}
use Rattle.flow_check.proofs.Holdings.{push_alone, only_one}
use Rattle.flow_check.proofs.exploring.push_all.Goals as goal

pub returns-then-targets-eq1 : goal.returns-then-targets-eq1
returns-then-targets-eq1 c =
    let rs = list_of c.args.call_string.now in
    let s = (held_point c.args.held).state in
    let one : length c.args.targets.now ≡ 1 = omega (arith, c.if-targets-eq1.true) in
    push_alone c.args.to_come.now.items c.push.new.self.items c.move_to.new.held _ rs s c.in_ok-push.ensures.items c.move_to.ensures
    ∙ ap (λ l. on_top (points_at l rs s) (stacked c.args.to_come.now.items [])) (sym (only_one c.args.targets.now _ one))
