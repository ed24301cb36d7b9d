-- The value that a unit stands for.
use Rattle.asm_text.specs.declared.unit.AsmUnit.{AsmUnit}
use Rattle.asm_text.specs.Parts.{UnitValue}
use Rattle.asm_text.specs.Views.{section_values, symbol_values}

abbrev pub unit_of : AsmUnit → UnitValue
unit_of u = record { sections = section_values u.sections; symbols = symbol_values u.symbols; relocations = u.relocations.items }
