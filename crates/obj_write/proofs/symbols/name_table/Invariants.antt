use Rattle.std.proofs.Common.{map, take}
use Rattle.asm_text.specs.Views.{symbol_value}
use Rattle.obj_write.specs.internal.Strings.{IsTableOf}
use Rattle.obj_write.specs.Symbols.{symbol_names}
use Rattle.obj_write.proofs.symbols.name_table.Given as goal

abbrev pub invariant-loop-symbol : goal.invariant-loop-symbol
invariant-loop-symbol l = IsTableOf (symbol_names (map symbol_value (take l.symbol-index l.symbols))) l.strings
