use Rattle.link_map.specs.internal.Values.{numbered_value}
use Rattle.link_map.proofs.Steps.{symbol_read}
use Rattle.link_map.proofs.symbols.put_symbols_of.Goals as goal

pub loop-k-preserved : goal.loop-k-preserved
loop-k-preserved c = λ l e.
    symbol_read l c.args.table.now (numbered_value c.args.x) c.args.numbers.now c.symbols-symbol-items.result.now c.loop-k.k _ c.loop-k.out.text.items c.put_symbol_if.new.out.text.items _ e c.symbols-symbol-items.ensures.value c.loop-k-test.true
    (c.loop-k.invariant l e) c.in_ok-put_symbol_if.ensures
