use Rattle.std.proofs.Common.{◌≡◌, ◌∙◌, ap, sym, arith, suc, ◌-◌, ◌+◌}
use Rattle.flow_check.specs.internal.Arms.{untold, tally_told}
use Rattle.flow_check.specs.internal.Points.{point_at}
use Rattle.flow_check.specs.internal.Programs.{arm_walk}
use Rattle.flow_check.proofs.Walking.{walk_there}
use Rattle.flow_check.proofs.arm.walk.Goals as goal

pub returns-then-point-join : goal.returns-then-point-join
returns-then-point-join c =
    sym (c.loop-left.invariant.rest
    ∙ walk_there c.args.program.now c.args.join c.loop-left.left (point_at c.loop-left.point) c.loop-left.tally
    c.loop-left-test.true c.if-point-join.true)

pub returns-in-Err : goal.returns-in-Err
returns-in-Err c =
    let one : c.loop-left.left ≡ suc (c.loop-left.left - 1) = omega arith in
    sym (c.loop-left.invariant.rest
    ∙ ap (λ n. tally_told (arm_walk c.args.program.now c.args.join n (point_at c.loop-left.point)) c.loop-left.tally) one
    ∙ c.in-Err.ensures.stops (c.loop-left.left - 1))

pub loop-left-preserved : goal.loop-left-preserved
loop-left-preserved c = record {
  rest =
      let one : c.loop-left.left ≡ suc (c.loop-left.left - 1) = omega arith in
      c.loop-left.invariant.rest
      ∙ ap (λ n. tally_told (arm_walk c.args.program.now c.args.join n (point_at c.loop-left.point)) c.loop-left.tally) one
      ∙ c.in_default.ensures.on (c.loop-left.left - 1);
  short = omega (arith, c.loop-left.invariant.short, c.walk_on.ensures.cycles);
}

pub returns : goal.returns
returns c =
    let none : c.loop-left.left ≡ 0 = omega arith in
    sym (c.loop-left.invariant.rest
    ∙ ap (λ n. tally_told (arm_walk c.args.program.now c.args.join n (point_at c.loop-left.point)) c.loop-left.tally) none)

pub loop-left-init : goal.loop-left-init
loop-left-init c = record {
  rest =
      let all : suc c.args.join ≡ c.from-left.result + 1 = omega (arith, c.from-left.ensures) in
      ap (λ n. tally_told (arm_walk c.args.program.now c.args.join n (point_at c.args.from.now)) (untold c.args.state.now)) all;
  short = omega (arith, c.from-left.ensures);
}
