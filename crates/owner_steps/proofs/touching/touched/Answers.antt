use Rattle.std.proofs.Common.{◌≤◌, ℕ, List, length, ◌∙◌, ap, arith, rules}
use Rattle.cpu_step.specs.Plan.{plan}
use Rattle.owner_steps.specs.internal.Touching.{traced_of}
use Rattle.owner_steps.proofs.Touched.{aligned_test, start_is, touched_is}
use Rattle.owner_steps.proofs.touching.touched.Goals as goal

pub returns-then-not-are_aligned : goal.returns-then-not-are_aligned
returns-then-not-are_aligned c aligned =
    absurd (aligned_test (plan c.args.insn.now c.args.settled.now.core) c.as_slice.result.now c.are_aligned.result aligned
    (c.as_slice.ensures.value ∙ c.plan-accesses.ensures.exact ∙ ap (λ (core : List ℕ). plan c.args.insn.now core) c.core-core.ensures) c.are_aligned.ensures.exact (search rules))

pub returns : goal.returns
returns c aligned =
    let s = c.args.settled.now in
    let few : length (plan c.args.insn.now c.core-core.result) ≤ 3 = omega (arith, c.as_slice.ensures.fits, ap length (c.as_slice.ensures.value ∙ c.plan-accesses.ensures.exact)) in
    touched_is c.args.insn.now s c.core-core.result _ c.new-2.result.items (traced_of c.execute.new.port) c.core-core.ensures
    (start_is s.devices c.bus.result.now c.mark.result c.bus.ensures c.mark.ensures.mark) c.new-2.ensures few c.execute.ensures.port
