-- What the code's emission stands for.
use Rattle.std.specs.Prelude.{ℕ, ◌≡◌, ◌+◌, ◌-◌, ◌≤◌, List, length, slice_get, Option, Some, true, All}
use Rattle.asm_line.specs.declared.TheConstants.{MAX_SIZE}
use Rattle.asm_text.specs.declared.emission.Meanings.{Meanings as MeaningsKept}
use Rattle.asm_text.specs.declared.emission.Emission.{Emission}
use Rattle.asm_text.specs.Emission.{Meanings, Emitted}
use Rattle.asm_text.specs.internal.Maps.{texts_in}
use Rattle.asm_text.specs.Parts.{SectionValue}
use Rattle.asm_line.specs.Identifiers.{is_name}
use Rattle.asm_text.specs.Views.{section_values}

abbrev pub meanings_value : MeaningsKept → Meanings
meanings_value m = record { sections = texts_in m.sections.now; spots = m.spots.now; symbols = m.symbols.now }

abbrev pub emitted_of : Emission → Emitted
emitted_of e = record { sections = section_values e.sections; relocations = e.relocations.items }

abbrev pub newest_section : List SectionValue → Option SectionValue
newest_section sections = slice_get sections (length sections - 1)

-- the last section has room for so many bytes
abbrev pub HasRoom : List SectionValue → ℕ → Type 0
HasRoom sections size = (last : SectionValue) → newest_section sections ≡ Some last → last.size + size ≤ MAX_SIZE

abbrev pub AreNames : List (List ℕ) → Type 0
AreNames names = All (λ name. is_name name ≡ true) names
