use Rattle.std.proofs.Common.{arith, length-set, ◌∙◌}
use Rattle.link_symbols.proofs.FoundLemmas.{used_more}
use Rattle.link_symbols.proofs.check.used_symbols.Goals as goal

pub loop-place-preserved : goal.loop-place-preserved
loop-place-preserved c =
    let lt = c.relocation.ensures.within.symbol in
    record {
      count = length-set c.loop-place.used.items c.relocation.result.symbol _ ∙ c.loop-place.invariant.count;
      marks = used_more c.loop-place.used.items c.args.object.now.relocations c.loop-place.place c.relocation.result c.relocation.ensures.value (omega (arith, lt, c.loop-place.invariant.count)) c.loop-place.invariant.marks;
    }
