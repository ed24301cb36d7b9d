use Rattle.std.proofs.Common.{sym, ◌∙◌}
use Rattle.elf_objects.proofs.PassLemmas.{first_below_more, first_below_zero, first_below_found}
use Rattle.elf_objects.proofs.passes.first_below.Goals as goal

pub loop-i-init : goal.loop-i-init
loop-i-init g c = λ f h. first_below_zero f

pub loop-i-preserved : goal.loop-i-preserved
loop-i-preserved g c = λ f h. first_below_more f c.loop-i.i (c.loop-i.invariant f h)
    (sym (h c.loop-i.i c.found_at.result c.loop-i-test.true c.found_at.ensures) ∙ c.in_default.is)

pub returns-in-Some : goal.returns-in-Some
returns-in-Some g c = λ f h. sym (first_below_found f c.args.count c.loop-i.i c.in-Some.found c.loop-i-test.true (c.loop-i.invariant f h)
    (sym (h c.loop-i.i c.found_at.result c.loop-i-test.true c.found_at.ensures) ∙ c.in-Some.is))
