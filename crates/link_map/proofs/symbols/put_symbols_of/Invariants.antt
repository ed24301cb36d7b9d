use Rattle.std.proofs.Common.{◌≡◌, ◌++◌, drop}
use Rattle.linker.specs.Numbers.{Linking, numbers_in}
use Rattle.link_map.specs.Lines.{numbered_text}
use Rattle.link_map.specs.Map.{symbol_line, symbol_lines}
use Rattle.link_map.specs.internal.Values.{numbered_value}
use Rattle.link_map.proofs.symbols.put_symbols_of.Given as goal

abbrev pub invariant-loop-k : goal.invariant-loop-k
invariant-loop-k l = (linking : Linking) → l.numbers ≡ numbers_in linking (numbered_value l.x) →
    l.out.text.items ++ numbered_text (symbol_line linking l.table (numbered_value l.x)) l.k (drop l.k l.x.object.now.symbols) ≡ l.fn.out.text.items ++ symbol_lines linking l.table (numbered_value l.x)
