-- The unit of a source, or its first refusal.
use Rattle.std.specs.Prelude.{ℕ, List, length, Option, Some, None, Result, Ok, Err}
use Rattle.asm_text.specs.declared.unit.AsmFault.{AsmFault}
use Rattle.asm_text.specs.declared.unit.AsmFault.TheVariants.{Line}
use Rattle.asm_text.specs.Emission.{Meanings, Emitted, nothing, emitted_from}
use Rattle.asm_text.specs.Parts.{UnitValue}
use Rattle.asm_text.specs.Placing.{Placed, nowhere, placed_from, unrefused}
use Rattle.asm_text.specs.Source.{SourceRead, source_read}
use Rattle.asm_text.specs.Symbols.{is_global_name, order_of, symbols_for, symbol_numbers}

-- how many names a source has
abbrev pub name_count : SourceRead → ℕ
name_count s = length s.tables.names

abbrev pub symbol_order : SourceRead → Placed → List ℕ
symbol_order s p = order_of s.statements p (name_count s)

-- what its names mean
abbrev pub meanings : SourceRead → Placed → Meanings
meanings s p = record { sections = s.tables.sections; spots = p.spots; symbols = symbol_numbers (symbol_order s p) (name_count s) }

abbrev pub unit_for : SourceRead → Placed → Emitted → UnitValue
unit_for s p e = record {
  sections = e.sections;
  symbols = symbols_for (is_global_name s.statements) s.tables.names p.spots (symbol_order s p);
  relocations = e.relocations;
}

-- the jumps come last: all lines are read and placed before
abbrev pub with_emitted : SourceRead → Placed → Result Emitted AsmFault → Result UnitValue AsmFault
with_emitted s p emitted = unrefused emitted (λ e. Ok (unit_for s p e))

-- a line without a form follows those that were placed
abbrev pub with_stop : SourceRead → Placed → Option ℕ → Result UnitValue AsmFault
with_stop s p (Some n) = Err (Line n)
with_stop s p None = with_emitted s p (emitted_from (meanings s p) 1 nothing s.statements)

abbrev pub with_placed : SourceRead → Result Placed AsmFault → Result UnitValue AsmFault
with_placed s placing = unrefused placing (λ p. with_stop s p s.stopped)

abbrev pub assembled_source : SourceRead → Result UnitValue AsmFault
assembled_source s = with_placed s (placed_from 1 (nowhere (name_count s)) s.statements)

unfoldable pub assembled : List ℕ → Result UnitValue AsmFault
assembled text = assembled_source (source_read text)
