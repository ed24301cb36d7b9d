use Rattle.std.proofs.Common.{◌≡◌, List, drop}
use Rattle.link_symbols.specs.declared.item.Item.{Item}
use Rattle.link_symbols.specs.Passes.{map_at}
use Rattle.link_symbols.specs.Commons.{Common}
use Rattle.link_symbols.specs.internal.Maps.{HoldsCommons, name_entry}
use Rattle.link_symbols.specs.Symbols.{named_symbol}
use Rattle.link_symbols.proofs.CommonLemmas.{Gathered}
use Rattle.link_symbols.proofs.names.Names.note_commons.Given as goal

abbrev pub invariant-loop-k : goal.invariant-loop-k
invariant-loop-k l = record {
  gathered : (sections : List Item) (cs : List Common) → HoldsCommons l.fn.self l.fn.items.items sections cs →
      Gathered l.self l.items.items sections (name_entry l.fn.self.strong) cs
      (map_at (named_symbol (record { number = l.number; first = l.first; object = l.object })) 0 l.object.symbols)
      (map_at (named_symbol (record { number = l.number; first = l.first; object = l.object })) l.k (drop l.k l.object.symbols));
  strong : l.self.strong ≡ l.fn.self.strong;
  weak : l.self.weak ≡ l.fn.self.weak;
  firsts : l.self.firsts ≡ l.fn.self.firsts;
}
