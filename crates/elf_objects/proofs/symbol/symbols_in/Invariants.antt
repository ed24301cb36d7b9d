use Rattle.std.proofs.Common.{◌≡◌}
use Rattle.elf_objects.specs.Passes.{each_below}
use Rattle.elf_objects.specs.Symbol.{symbol_of}
use Rattle.elf_objects.proofs.symbol.symbols_in.Given as goal

abbrev pub invariant-loop-k : goal.invariant-loop-k
invariant-loop-k l = l.symbols.items ≡ each_below (symbol_of l.file l.table) l.k
