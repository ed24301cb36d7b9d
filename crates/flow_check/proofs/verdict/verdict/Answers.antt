use Rattle.std.proofs.Common.{rules, arith, ◌≡◌, ◌<◌, [], ℕ, length, ap, ◌∙◌}
use Rattle.flow_rule.specs.declared.AbstractState.{AbstractState}
use Rattle.flow_rule.specs.Iterations.{PointState}
use Rattle.flow_check.specs.internal.Points.{fronts_of}
use Rattle.flow_check.specs.internal.Programs.{flow}
use Rattle.flow_check.proofs.Iterating.{reached_more}
use Rattle.flow_check.proofs.Taking.{points_long}
use Rattle.flow_check.proofs.Verdicts.{rests_there, decided_many}
use Rattle.flow_check.proofs.Weights.{ends}
use Rattle.flow_check.proofs.verdict.verdict.Goals as goal

abbrev start_at : ℕ → AbstractState → PointState
start_at a l = record { point = record { addr = a; call_string = [] }; state = l }

pub returns-then-is_empty : goal.returns-then-is_empty
returns-then-is_empty c =
    let start = start_at c.args.start c.args.first.now in
    let none : length c.take_changed.new.front.items ≡ 0 = Prim.search (rules, c.is_empty.ensures, c.if-is_empty.true) in
    c.decide.ensures start c.args.program.now.module.now.text.start
    (rests_there (flow c.args.program.now) start c.loop-front.all c.take_changed.new.self c.take_changed.new.front.items
    c.loop-front.invariant.1 c.in_ok-take_changed.ensures.front c.in_ok-take_changed.ensures.points none)

pub returns-then-branch : goal.returns-then-branch
returns-then-branch c =
    decided_many (flow c.args.program.now) (start_at c.args.start c.args.first.now) c.args.program.now.module.now.text.start c.loop-front.all c.take_changed.new.self (fronts_of c.as_slice.result.now)
    c.loop-front.invariant.1 (ap fronts_of c.as_slice.ensures.value ∙ c.in_ok-take_changed.ensures.front) c.in_ok-take_changed.ensures.points (c.in_ok-iterate.ensures.many c.if-branch.true)

pub loop-front-preserved : goal.loop-front-preserved
loop-front-preserved c = (
  c.in_ok-iterate.ensures.few c.if-branch.false,
  reached_more (flow c.args.program.now) (start_at c.args.start c.args.first.now) c.loop-front.all c.take_changed.new.self (fronts_of c.as_slice.result.now)
      c.loop-front.invariant.1 (ap fronts_of c.as_slice.ensures.value ∙ c.in_ok-take_changed.ensures.front) c.in_ok-take_changed.ensures.points
      c.iterate.new.all (c.in_ok-iterate.ensures.joined c.if-branch.false) c.in_ok-iterate.ensures.kept,
  c.in_ok-iterate.ensures.summaries,
)

pub loop-front-smaller : goal.loop-front-smaller
loop-front-smaller c =
    let some : 0 < length c.take_changed.new.front.items = Prim.search (rules, c.is_empty.ensures, c.if-is_empty.false) in
    ends c.loop-front.all c.take_changed.new.self c.iterate.new.all c.take_changed.new.front.items
    c.in_ok-take_changed.ensures.front some c.in_ok-take_changed.ensures.points c.in_ok-iterate.ensures.kept (c.in_ok-iterate.ensures.few c.if-branch.false)

pub loop-front-init : goal.loop-front-init
loop-front-init c = (
  c.in_ok-all.ensures.few,
  c.in_ok-all.ensures.reached (flow c.args.program.now),
  c.new-summaries.ensures c.args.program.now,
)

pub decide-requires-clause-fit : goal.decide-requires-clause-fit
decide-requires-clause-fit c =
    let same = ap length c.in_ok-take_changed.ensures.points in
    let before = points_long c.loop-front.all in
    let after = points_long c.take_changed.new.self in
    omega (arith, same, before, after, c.loop-front.invariant.0)
