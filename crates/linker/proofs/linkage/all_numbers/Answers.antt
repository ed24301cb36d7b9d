use Rattle.std.proofs.Common.{◌∙◌, ap, length, map, arith}
use Rattle.std.specs.Prelude.{slice_index}
use Rattle.linker.specs.Numbers.{number_or_zero}
use Rattle.linker.proofs.LinkageLemmas.{numbers_more, numbers_all}
use Rattle.linker.proofs.linkage.all_numbers.Goals as goal

pub meanings-requires : goal.meanings-requires
meanings-requires c = let n = ap length c.requires.resolved in omega (arith, n, c.loop-number-test.true)

pub loop-number-preserved : goal.loop-number-preserved
loop-number-preserved c =
    let n = ap length c.requires.resolved in
    numbers_more (slice_index c.args.addresses.now) c.args.resolved.now.objects c.loop-number.all.items c.push.new.self.items c.in_ok-numbers.numbers c.loop-number.number (omega (arith, n, c.loop-number-test.true))
    c.in_ok-push.ensures.items (c.in_ok-numbers.ensures.value ∙ ap (map (number_or_zero (slice_index c.args.addresses.now))) c.meanings.ensures) c.loop-number.invariant

pub returns : goal.returns
returns c =
    let n = ap length c.requires.resolved in
    numbers_all c.args.addresses.now c.args.resolved.now.objects c.loop-number.all.items c.loop-number.number (omega (arith, n, c.loop-number-test.false)) c.loop-number.invariant
