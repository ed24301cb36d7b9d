use Rattle.std.proofs.Common.{◌≡◌, ◌∙◌, ◌++◌, ap, sym, subst, length, arith}
use Rattle.flow_rule.specs.Arms.{step_arms}
use Rattle.flow_check.specs.internal.Violations.{noted}
use Rattle.flow_check.specs.internal.Points.{addrs_of, point_of, state_of}
use Rattle.flow_check.specs.internal.Programs.{flow_by, step_by}
use Rattle.flow_check.specs.internal.Steps.{Tells, Gives}
use Rattle.flow_check.specs.internal.Exploring.{held_point}
use Rattle.flow_check.proofs.Holdings.{no_arms, whole_again}
use Rattle.flow_check.proofs.exploring.step_held.Goals as goal

pub returns : goal.returns
returns c =
    let p = c.args.program.now in
    let held = c.args.held.now in
    let x = held_point held in
    let core = c.step_base.new.core in
    let words = c.step_base.new.words in
    let same : step_by p x ≡ flow_by p x = sym (ap (λ arms. step_arms (step_by p) arms p.module.now p.text.now x) c.requires.plain ∙ no_arms (step_by p) p.module.now p.text.now x) in
    let told : Tells (step_by p x) c.new-stepped.result c.step_base.new.stepped (state_of core words) =
    subst (λ ws. Tells (step_by p (point_of held.addr held.call_string (state_of held.core ws))) c.new-stepped.result c.step_base.new.stepped (state_of core words)) c.as_mut_slice-words.ensures.value
    (subst (λ r. Tells (step_by p (point_of held.addr r (state_of held.core c.as_mut_slice-words.result.now))) c.new-stepped.result c.step_base.new.stepped (state_of core words)) c.new-stepped.ensures.call_string c.step_base.ensures) in
    let long : length words ≡ held.words.len = omega (arith, c.as_mut_slice-words.ensures.len, c.step_base.auto.words) in
    subst (λ ws. Gives (flow_by p x) c.step_base.new.stepped (state_of core ws)) (sym (whole_again held.words.len words held.words.items long (omega (arith, held.words.ok.0))))
    (subst (λ s. Gives s c.step_base.new.stepped (state_of core words)) same record {
      least = told.least ∙ ap (noted (step_by p x).violations) c.new-stepped.ensures.least;
      targets = told.targets ∙ ap (λ t. t ++ addrs_of (step_by p x).gives) c.new-stepped.ensures.targets;
      successors = told.successors;
    })
