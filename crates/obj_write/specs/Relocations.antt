-- The tables of relocations with addends (TIS ELF 1.2, "Relocation").
use Rattle.std.specs.Prelude.{ℕ, ◌+◌, ◌*◌, ◌==◌, List, [], ◌∷◌}
use Rattle.std.specs.List.{filter, flat_map}
use Rattle.elf_objects.specs.Passes.{all_below}
use Rattle.asm_text.specs.declared.unit.AsmRelocation.{AsmRelocation}
use Rattle.obj_write.specs.Bytes.{longs_bytes}

-- R_MSP430_16_BYTE of the MSP430's kinds of relocations: a word at any address
abbrev pub word_field : ℕ
word_field = 5

-- an entry: the symbol has the next index in the file, the kind is that of a word, and the addend is 0
unfoldable pub relocation_entry : AsmRelocation → List ℕ
relocation_entry r = longs_bytes (r.offset ∷ ((r.symbol + 1) * 256 + word_field) ∷ 0 ∷ [])

-- those of one section, in order
abbrev pub relocations_in : List AsmRelocation → ℕ → List AsmRelocation
relocations_in relocations section = filter (λ r. r.section == section) relocations

unfoldable pub relocation_table : List AsmRelocation → ℕ → List ℕ
relocation_table relocations section = flat_map relocation_entry (relocations_in relocations section)

-- a value, where there are relocations
abbrev pub where_some : {A : Type 0} → List AsmRelocation → A → List A
where_some [] value = []
where_some (r ∷ rs) value = value ∷ []

-- the sections with relocations, of so many
unfoldable pub relocated_sections : List AsmRelocation → ℕ → List ℕ
relocated_sections relocations count = all_below (λ i. where_some (relocations_in relocations i) i) count
