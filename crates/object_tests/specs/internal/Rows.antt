-- The parts of a worked object.
use Rattle.std.specs.Prelude.{true, false, [], ◌∷◌, Some, codes}
use Rattle.asm_line.specs.declared.statement.SectionKind.TheVariants.{Code}
use Rattle.asm_text.specs.Parts.{SectionValue, SymbolValue}

abbrev pub text_value : SectionValue
text_value = record { name = codes ".text"; kind = Code; size = 8; bytes = 0x35 ∷ 0x40 ∷ 0x34 ∷ 0x12 ∷ 0x03 ∷ 0x43 ∷ 0xff ∷ 0x3f ∷ [] }

abbrev pub here_value : SymbolValue
here_value = record { name = codes "here"; global = false; home = Some 0; value = 6 }

abbrev pub main_value : SymbolValue
main_value = record { name = codes "main"; global = true; home = Some 0; value = 0 }
