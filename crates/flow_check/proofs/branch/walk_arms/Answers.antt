use Rattle.std.proofs.Common.{◌≡◌, ◌∙◌, ap, suc, not, arith, Bool, List}
use Rattle.mod_layout.specs.Table.{holds}
use Rattle.flow_rule.specs.declared.AbstractState.{AbstractState}
use Rattle.flow_rule.specs.declared.Reason.TheVariants.{Arm as ArmInsn}
use Rattle.flow_rule.specs.Violations.{violation_if}
use Rattle.flow_rule.specs.Iterations.{RuleViolation, PointState}
use Rattle.flow_check.specs.internal.Violations.{noted}
use Rattle.flow_check.specs.internal.Arms.{untold, tally_told}
use Rattle.flow_check.specs.internal.Points.{point_at}
use Rattle.flow_check.specs.internal.Programs.{arm_walk, untaken_walk, taken_walk}
use Rattle.flow_check.proofs.Walking.{site_least, site_told}
use Rattle.flow_check.proofs.branch.walk_arms.Goals as goal

pub returns : goal.returns
returns c =
    let p = c.args.program.now in
    let b = c.args.site.now in
    let x : PointState = point_at c.args.from.now in
    let l0 : AbstractState = c.args.told.now in
    let l1 : AbstractState = c.take_arm.new.told in
    let wide : c.from.result ≡ b.arm.join = omega arith in
    let w0 = untaken_walk p b x in
    let w1 = taken_walk p b x in
    let r0 = c.walk-first.result in
    let r1 = c.walk-second.result in
    let first : r0 ≡ tally_told w0 (untold l0) =
    c.walk-first.ensures ∙ ap (λ y. tally_told (arm_walk p b.arm.join (suc b.arm.join) y) (untold l0)) c.first_arm-start.ensures in
    let second : r1 ≡ tally_told w1 (untold l1) =
    c.walk-second.ensures ∙ ap (λ y. tally_told (arm_walk p b.arm.join (suc b.arm.join) y) (untold l1)) c.second_arm-start.ensures in
    let apart : Bool → List RuleViolation = λ h. violation_if (not h) x.point.addr ArmInsn b.arm.join in
    record {
      least =
          site_least l0 l1 w0 w1 r0 r1 first c.take_arm.ensures.told second x.point.addr b.arm.cycles
          (apart (holds p.module.now.text b.arm.join))
          c.args.least.now c.note_if.new.least c.take_arm.new.least c.take_arm-2.new.least
          (c.note_if.ensures ∙ ap (λ h. noted (apart h) c.args.least.now) (c.holds-apart.ensures.exact ∙ ap (holds p.module.now.text) wide))
          c.take_arm.ensures.least c.take_arm-2.ensures.least;
      told = c.take_arm-2.ensures.told ∙ site_told l0 l1 w0 w1 r0 r1 first c.take_arm.ensures.told second;
    }
