use Rattle.std.proofs.Common.{◌∙◌, ap, Bool, cond, Some, None}
use Rattle.cpu_step.specs.Effect.{value_of, two_result}
use Rattle.cpu_step.specs.Plan.{reads_dst}
use Rattle.flow_rule.specs.declared.Told.{Told}
use Rattle.flow_rule.specs.declared.Val.{Val}
use Rattle.flow_rule.specs.Values.{over}
use Rattle.flow_check.specs.internal.Programs.{domain_of}
use Rattle.flow_rule.specs.Does.{sets_flags, read_if, told_of}
use Rattle.flow_check.proofs.transfer.worked.Goals as goal

abbrev made : Val → Bool → Val → Told
made v sets r = record { value = v; flags = cond sets (Some r) None }

pub returns : goal.returns
returns c =
    let op = c.args.op in
    let f = two_result op c.args.width in
    let d = c.read_if-old.result in
    let k = c.carry_if-carry.result in
    let old = c.read_if-old.ensures ∙ ap (λ b. read_if b c.args.d) c.reads_destination.ensures in
    let carry = c.carry_if-carry.ensures.exact ∙ ap (λ b. read_if b c.args.c) c.reads_carry.ensures in
    let worth = over (λ x y z. value_of (f x y z)) c.args.s d k in
    c.told.ensures
    ∙ ap (λ v. made v c.sets_flags.result c.two_flags-set.result) c.two_value-value.ensures
    ∙ ap (λ b. made worth b c.two_flags-set.result) c.sets_flags.ensures
    ∙ ap (λ r. made worth (sets_flags op) r) c.two_flags-set.ensures
    ∙ ap (λ v. told_of (domain_of c.args.flags) (sets_flags op) f c.args.s v k) old
    ∙ ap (λ v. told_of (domain_of c.args.flags) (sets_flags op) f c.args.s (read_if (reads_dst op) c.args.d) v) carry
