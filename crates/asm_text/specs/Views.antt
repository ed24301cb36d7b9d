-- The values that the code's types stand for.
use Rattle.std.specs.Prelude.{List, map, string_bytes, Vec}
use Rattle.std.specs.declared.alloc.Global.{Global}
use Rattle.asm_text.specs.declared.unit.AsmSection.{AsmSection}
use Rattle.asm_text.specs.declared.unit.AsmSymbol.{AsmSymbol}
use Rattle.asm_text.specs.Parts.{SectionValue, SymbolValue}

abbrev pub section_value : AsmSection → SectionValue
section_value s = record { name = string_bytes s.name; kind = s.kind; size = s.size; bytes = s.bytes.items }

abbrev pub section_values : Vec AsmSection Global → List SectionValue
section_values v = map section_value v.items

abbrev pub symbol_value : AsmSymbol → SymbolValue
symbol_value s = record { name = string_bytes s.name; global = s.global; home = s.home; value = s.value }

abbrev pub symbol_values : Vec AsmSymbol Global → List SymbolValue
symbol_values v = map symbol_value v.items
