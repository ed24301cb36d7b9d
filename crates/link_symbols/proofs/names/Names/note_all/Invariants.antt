use Rattle.std.proofs.Common.{◌≡◌, List, drop}
use Rattle.link_symbols.specs.Passes.{map_at}
use Rattle.link_symbols.specs.Symbols.{NamedValue, named_symbol}
use Rattle.link_symbols.specs.internal.Maps.{HoldsNames}
use Rattle.link_symbols.proofs.NameLemmas.{Reached}
use Rattle.link_symbols.proofs.names.Names.note_all.Given as goal

abbrev pub invariant-loop-k : goal.invariant-loop-k
invariant-loop-k l = record {
  reached : (before : List NamedValue) → HoldsNames l.fn.self before →
      Reached l.self before (map_at (named_symbol (record { number = l.number; first = l.first; object = l.object })) 0 l.object.symbols)
      (map_at (named_symbol (record { number = l.number; first = l.first; object = l.object })) l.k (drop l.k l.object.symbols));
  commons : l.self.commons ≡ l.fn.self.commons;
}
