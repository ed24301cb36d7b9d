use Rattle.std.proofs.Common.{◌<◌, ◌≤◌, length, sym, ◌∙◌, arith}
use Rattle.std.proofs.lemmas.Bool.Decides.{nat_tests}
use Rattle.image_text.proofs.WriteLemmas.{number_held}
use Rattle.image_text.proofs.writer.count.Goals as goal

pub loop-count-smaller : goal.loop-count-smaller
loop-count-smaller c =
    let e = sym (number_held c.args.table.now.modules c.loop-count.count c.requires.numbered) ∙ sym c.is_held.ensures ∙ c.loop-count-test.true in
    let l : c.loop-count.count < length c.args.table.now.modules = grind (arith, nat_tests) in
    omega arith

pub loop-count-preserved : goal.loop-count-preserved
loop-count-preserved c =
    let e = sym (number_held c.args.table.now.modules c.loop-count.count c.requires.numbered) ∙ sym c.is_held.ensures ∙ c.loop-count-test.true in
    let l : c.loop-count.count < length c.args.table.now.modules = grind (arith, nat_tests) in
    omega arith

pub returns : goal.returns
returns c =
    let e = sym (number_held c.args.table.now.modules c.loop-count.count c.requires.numbered) ∙ sym c.is_held.ensures ∙ c.loop-count-test.false in
    let l : length c.args.table.now.modules ≤ c.loop-count.count = grind (arith, nat_tests) in
    let k = c.loop-count.invariant in
    omega arith
