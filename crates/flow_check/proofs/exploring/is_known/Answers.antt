use Rattle.std.proofs.Common.{◌∙◌, sym, ap, [], ◌∷◌, drop, ◌+◌}
use Rattle.std.proofs.lemmas.List.{drop_more}
use Rattle.flow_laws.specs.Exploring.{is_known}
use Rattle.flow_check.specs.internal.Exploring.{held_point, stacked}
use Rattle.flow_check.proofs.Holdings.{known_here, known_later}
use Rattle.flow_check.proofs.exploring.is_known.Goals as goal

pub returns-then-covers : goal.returns-then-covers
returns-then-covers c =
    let x = held_point c.args.held.now in
    sym (c.loop-one.invariant ∙ ap (λ l. is_known (stacked l []) x) (drop_more c.args.kept.now c.loop-one.one-index c.one-item.result c.loop-one-test.true ∙ ap (λ h. h ∷ drop (c.loop-one.one-index + 1) c.args.kept.now) (sym c.one-item.is)) ∙ known_here c.one-item.result (drop (c.loop-one.one-index + 1) c.args.kept.now) x (sym c.covers.ensures ∙ c.if-covers.true))

pub loop-one-preserved : goal.loop-one-preserved
loop-one-preserved c =
    let x = held_point c.args.held.now in
    c.loop-one.invariant ∙ ap (λ l. is_known (stacked l []) x) (drop_more c.args.kept.now c.loop-one.one-index c.one-item.result c.loop-one-test.true ∙ ap (λ h. h ∷ drop (c.loop-one.one-index + 1) c.args.kept.now) (sym c.one-item.is)) ∙ known_later c.one-item.result (drop (c.loop-one.one-index + 1) c.args.kept.now) x (sym c.covers.ensures ∙ c.if-covers.false)
