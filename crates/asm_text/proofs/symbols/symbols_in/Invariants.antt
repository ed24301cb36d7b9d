use Rattle.std.proofs.Common.{◌≡◌, false, map, take}
use Rattle.std.specs.List.{slice_index_or}
use Rattle.asm_text.specs.internal.Maps.{texts_in}
use Rattle.asm_text.specs.Views.{symbol_value}
use Rattle.asm_text.proofs.SymbolLemmas.{symbol_at}
use Rattle.asm_text.proofs.symbols.symbols_in.Given as goal

abbrev pub invariant-loop-name : goal.invariant-loop-name
invariant-loop-name l = map symbol_value l.symbols.items ≡ map (symbol_at (λ k. slice_index_or l.globals k false) (texts_in l.names) l.spots) (take l.name-index l.order)
