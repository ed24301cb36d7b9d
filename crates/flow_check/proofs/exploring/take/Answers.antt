use Rattle.std.proofs.lemmas.Bool.Decides.{nat_tests}
use Rattle.std.proofs.Common.{arith, ◌≡◌, ◌∙◌, sym, ap, [], None, true, false}
use Rattle.flow_rule.specs.Iterations.{FlowStep}
use Rattle.flow_laws.specs.Exploring.{forks, on_top, is_known}
use Rattle.flow_check.specs.internal.Points.{list_of, points_at}
use Rattle.flow_check.specs.internal.Programs.{flow_by}
use Rattle.flow_check.specs.internal.Violations.{noted}
use Rattle.flow_check.specs.internal.Exploring.{held_point, stacked}
use Rattle.flow_check.proofs.Holdings.{take_on}
use Rattle.flow_check.proofs.Successors.{none_found}
use Rattle.flow_check.proofs.exploring.take.Goals as goal

pub returns-then-len-gt-MOST : goal.returns-then-len-gt-MOST
returns-then-len-gt-MOST c =
    let step = flow_by c.args.program.now in
    let x = held_point c.args.held in
    let s : FlowStep = step x in
    let none : noted s.violations None ≡ None = sym c.step_held-stepped.ensures.least ∙ c.in_default.is in
    let new : is_known (stacked c.args.kept.now.items []) x ≡ false = ap (λ l. is_known (stacked l []) x) (sym c.as_slice.ensures.value) ∙ sym c.is_known.ensures ∙ c.if-is_known.false in
    let rs = list_of c.step_held-stepped.result.call_string in
    let now = (held_point c.step_held-stepped.new.held).state in
    let gives = c.step_held-stepped.ensures.successors (none_found s.violations none) in
    take_on step (forks c.args.program.now.module.now c.args.program.now.text.now) x (stacked c.args.to_come.now.items []) (stacked c.args.kept.now.items []) true c.push_all.new.to_come.items c.keep.new.kept.items new none
    (c.in_ok-push_all.ensures ∙ ap (λ ts. on_top (points_at ts rs now) (stacked c.args.to_come.now.items [])) (c.as_slice-2.ensures.value ∙ c.step_held-stepped.ensures.targets) ∙ sym (ap (λ l. on_top l (stacked c.args.to_come.now.items [])) gives)) c.in_ok-keep.ensures
    (grind (arith, nat_tests, c.if-len-gt-MOST.true, c.len.ensures, c.len-2.ensures, c.push_all.new.to_come.ok.0, c.keep.new.kept.ok.0))

pub returns : goal.returns
returns c =
    let step = flow_by c.args.program.now in
    let x = held_point c.args.held in
    let s : FlowStep = step x in
    let none : noted s.violations None ≡ None = sym c.step_held-stepped.ensures.least ∙ c.in_default.is in
    let new : is_known (stacked c.args.kept.now.items []) x ≡ false = ap (λ l. is_known (stacked l []) x) (sym c.as_slice.ensures.value) ∙ sym c.is_known.ensures ∙ c.if-is_known.false in
    let rs = list_of c.step_held-stepped.result.call_string in
    let now = (held_point c.step_held-stepped.new.held).state in
    let gives = c.step_held-stepped.ensures.successors (none_found s.violations none) in
    take_on step (forks c.args.program.now.module.now c.args.program.now.text.now) x (stacked c.args.to_come.now.items []) (stacked c.args.kept.now.items []) false c.push_all.new.to_come.items c.keep.new.kept.items new none
    (c.in_ok-push_all.ensures ∙ ap (λ ts. on_top (points_at ts rs now) (stacked c.args.to_come.now.items [])) (c.as_slice-2.ensures.value ∙ c.step_held-stepped.ensures.targets) ∙ sym (ap (λ l. on_top l (stacked c.args.to_come.now.items [])) gives)) c.in_ok-keep.ensures
    (grind (arith, nat_tests, c.if-len-gt-MOST.false, c.len.ensures, c.len-2.ensures, c.push_all.new.to_come.ok.0, c.keep.new.kept.ok.0))
