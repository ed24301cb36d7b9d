use Rattle.std.proofs.Common.{◌≡◌, length, ap, ◌∙◌, arith}
use Rattle.linker.specs.Linkage.{listed_numbers}
use Rattle.link_map.specs.Map.{symbol_lines}
use Rattle.link_map.proofs.Steps.{object_more, own_list, numbers_next, symbols_count}
use Rattle.link_map.proofs.symbols.put_symbols.Goals as goal

pub put_symbols_of-requires : goal.put_symbols_of-requires
put_symbols_of-requires c =
    let l = c.requires.numbers.0 in
    let all = c.requires.numbers.1 in
    let own = own_list l c.args.numbers.now c.args.objects.now c.loop-number.number c.loop-number.first c.index-objects-number.result c.index-numbers-number.result c.loop-number-test.true c.index-objects-number.is all c.index-numbers-number.is (c.loop-number.invariant.told l all).1 in
    record { count = symbols_count l (record { number = c.loop-number.number; first = c.loop-number.first; object = c.index-objects-number.result }) c.as_slice-own.result.now (c.as_slice-own.ensures.value ∙ own) }

pub loop-number-preserved : goal.loop-number-preserved
loop-number-preserved c =
    let o = c.index-objects-number.result in
    let same : length c.sections.result.now ≡ length o.sections = ap length c.sections.ensures.value in
    record {
      told = λ l all.
          let t = c.loop-number.invariant.told l all in
          let own = own_list l c.args.numbers.now c.args.objects.now c.loop-number.number c.loop-number.first o c.index-numbers-number.result c.loop-number-test.true c.index-objects-number.is all c.index-numbers-number.is t.1 in (
            object_more (symbol_lines l c.args.table.now) c.args.objects.now c.loop-number.number c.loop-number.first (length c.sections.result.now) o c.loop-number.out.text.items c.put_symbols_of.new.out.text.items _ c.loop-number-test.true c.index-objects-number.is same t.0 (c.in_ok-put_symbols_of.ensures l (c.as_slice-own.ensures.value ∙ own)),
            numbers_next l (listed_numbers c.args.numbers.now) c.args.objects.now c.loop-number.number c.loop-number.first (length c.sections.result.now) o c.loop-number-test.true c.index-objects-number.is same t.1,
          );
      first = omega (arith, c.loop-number.invariant.first, c.sections.ensures.few);
    }
