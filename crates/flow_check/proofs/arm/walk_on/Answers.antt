use Rattle.std.proofs.Common.{◌≡◌, ◌∙◌, ap, sym, ℕ, [], slice_set}
use Rattle.flow_rule.specs.declared.Val.TheVariants.{Known}
use Rattle.flow_rule.specs.Does.{plan_val}
use Rattle.flow_rule.specs.Iterations.{PointState, FlowStep}
use Rattle.flow_check.specs.internal.Arms.{told_insn, tally_told}
use Rattle.flow_check.specs.internal.Points.{list_of, point_at}
use Rattle.flow_check.specs.internal.Programs.{base_flow, arm_walk}
use Rattle.flow_check.proofs.Successors.{none_some, none_found}
use Rattle.flow_check.proofs.Walking.{successors_first, successors_none, walk_leaves, walk_goes}
use Rattle.flow_check.proofs.arm.walk_on.Goals as goal

pub returns-in-None-clause-stops : goal.returns-in-None-clause-stops
returns-in-None-clause-stops c = λ steps.
    let p = c.args.program.now in
    let x : PointState = point_at c.args.point.now in
    let S : PointState → FlowStep = base_flow p in
    let new = c.step_point-stepped.result in
    let gives = c.step_point-stepped.ensures in
    let none : (S x).violations ≡ [] = none_found (S x).violations (sym gives.least ∙ none_some new.least (sym c.is_some.ensures ∙ c.if-is_some.false)) in
    walk_leaves p c.args.join steps x c.args.tally.now c.in-Some.next c.requires.before c.in-Some.ensures.goes_on none
    (successors_none (S x).gives new.targets.items (list_of new.call_string) c.step_point-stepped.new.point.state gives.targets (gives.successors none) (sym c.first_of.ensures ∙ c.in-None.is))

pub returns-in-Some-first_of-clause-on : goal.returns-in-Some-first_of-clause-on
returns-in-Some-first_of-clause-on c = λ steps.
    let p = c.args.program.now in
    let m = p.module.now in
    let x : PointState = point_at c.args.point.now in
    let core = c.args.point.now.state.core in
    let t = c.args.tally.now in
    let insn = c.in-Some.insn in
    let to : ℕ = c.in-Some-first_of.to in
    let S : PointState → FlowStep = base_flow p in
    let new = c.step_point-stepped.result in
    let state = c.step_point-stepped.new.point.state in
    let gives = c.step_point-stepped.ensures in
    let none : (S x).violations ≡ [] = none_found (S x).violations (sym gives.least ∙ none_some new.least (sym c.is_some.ensures ∙ c.if-is_some.false)) in
    let first = successors_first (S x).gives new.targets.items (list_of new.call_string) state to gives.targets (gives.successors none) (sym c.first_of.ensures ∙ c.in-Some-first_of.is) in
    let y : PointState = record { point = record { addr = to; call_string = list_of new.call_string }; state = record { core = slice_set state.core 0 (Known to); words = state.words } } in
    let reached : c.as_slice-reached.result.now ≡ plan_val insn x.point.addr core = c.as_slice-reached.ensures.value ∙ c.reaches-reaches.ensures in
    walk_goes p c.args.join steps x y first.0 t c.in-Some.next insn c.requires.before c.in-Some.ensures.goes_on
    c.in-Some.ensures.met none first.1
    ∙ ap (tally_told (arm_walk p c.args.join steps y))
    (ap (λ n. told_insn n insn m (plan_val insn x.point.addr core) t) (sym c.cycles.ensures.exact)
    ∙ ap (λ xs. told_insn c.cycles.result insn m xs t) (sym reached) ∙ sym c.tell.ensures)
