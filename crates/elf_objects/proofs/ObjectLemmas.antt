-- A file with no sections is an object with empty lists.
use Rattle.std.proofs.Common.{◌≡◌, ℕ, List, [], None, refl, sym, ◌∙◌}
use Rattle.elf_objects.specs.declared.object.SectionHead.{SectionHead}
use Rattle.elf_objects.specs.declared.object.Symbol.{Symbol}
use Rattle.elf_objects.specs.declared.object.Relocation.{Relocation}
use Rattle.elf_objects.specs.Header.{section_count, header_fault}
use Rattle.elf_objects.specs.Object.{IsObject, elf_fault_of}
use Rattle.elf_objects.specs.Names.{sections_of}
use Rattle.elf_objects.specs.Symbol.{symbols_of, symbols_header}
use Rattle.elf_objects.specs.Section.{symbol_table}
use Rattle.elf_objects.specs.Relocation.{relocations_of}
use Rattle.elf_objects.specs.internal.Relocation.{ends_of}
use Rattle.elf_objects.specs.Passes.{first_below, each_below, all_below}

-- the lists of a file with no sections
pub no_sections_lists : (file : List ℕ) → section_count file ≡ 0 → (sections_of file ≡ []) × (symbols_of file ≡ []) × (relocations_of file ≡ [])
unfolding sections_of symbols_of symbols_header symbol_table relocations_of first_below each_below all_below
no_sections_lists file none = (rw none refl, rw none refl, rw none refl)

pub no_ends : (file : List ℕ) → section_count file ≡ 0 → ends_of file ≡ []
unfolding ends_of each_below
no_ends file none = rw none refl

no_sections_sound : (file : List ℕ) → header_fault file ≡ None → section_count file ≡ 0 → elf_fault_of file ≡ None
unfolding elf_fault_of
no_sections_sound file sound none = rw (sound, none) refl

pub no_sections : (file : List ℕ) (sections : List SectionHead) (symbols : List Symbol) (relocations : List Relocation) → header_fault file ≡ None → section_count file ≡ 0 → sections ≡ [] → symbols ≡ [] → relocations ≡ [] → IsObject (record { file = file; sections = sections; symbols = symbols; relocations = relocations })
no_sections file sections symbols relocations sound none a b c =
    let lists = no_sections_lists file none in
    record { sound = no_sections_sound file sound none; sections = a ∙ sym lists.0; symbols = b ∙ sym lists.1; relocations = c ∙ sym lists.2 }
