use Rattle.std.proofs.Common.{◌++◌, ◌≡◌, drop}
use Rattle.link_symbols.specs.internal.Maps.{meaning_of_name}
use Rattle.link_symbols.specs.Resolved.{meaning_at}
use Rattle.link_symbols.specs.Passes.{map_at}
use Rattle.link_symbols.proofs.check.meanings_of.Given as goal

abbrev pub invariant-loop-k : goal.invariant-loop-k
invariant-loop-k l = l.meanings.items ++ map_at (meaning_at (meaning_of_name l.names) (record { number = l.number; first = l.first; object = l.object })) l.k (drop l.k l.object.symbols)
    ≡ map_at (meaning_at (meaning_of_name l.names) (record { number = l.number; first = l.first; object = l.object })) 0 l.object.symbols
