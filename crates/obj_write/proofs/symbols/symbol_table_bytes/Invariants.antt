use Rattle.std.proofs.Common.{◌≡◌, ◌++◌, map, replicate}
use Rattle.elf_objects.specs.Passes.{all_below}
use Rattle.asm_text.specs.Views.{symbol_value}
use Rattle.elf_objects.specs.Numbers.{symbol_size}
use Rattle.obj_write.proofs.SymbolLemmas.{entry_at}
use Rattle.obj_write.proofs.symbols.symbol_table_bytes.Given as goal

abbrev pub invariant-loop-k : goal.invariant-loop-k
invariant-loop-k l = l.table.items ≡ replicate symbol_size 0 ++ all_below (entry_at (map symbol_value l.symbols)) l.k
