-- The headers of a unit's file, as they are read, and the faults that they do not have.
use Rattle.std.proofs.Common.{◌≡◌, ℕ, suc, ◌+◌, ◌<◌, ◌≤◌, ◌^◌, List, refl, ap, sym, subst, ◌∙◌, arith, length, take, get_or, length-append, not, replicate}
use Rattle.std.specs.List.{flat_map}
use Rattle.std.proofs.lemmas.List.Elements.{All-get_or}
use Rattle.std.proofs.lemmas.List.Sums.{prefix_len-le-length}
use Rattle.elf_objects.specs.declared.section.Header.{Header}
use Rattle.elf_objects.specs.Header.{section_count}
use Rattle.elf_objects.specs.Section.{header_of}
use Rattle.asm_line.specs.declared.statement.SectionKind.{SectionKind}
use Rattle.asm_line.specs.declared.statement.SectionKind.TheVariants.{Code, Data, Bss}
use Rattle.asm_text.specs.Parts.{SymbolValue, UnitValue, IsUnit, IsSectionValue}
use Rattle.obj_write.specs.declared.sections.Head.{Head}
use Rattle.obj_write.specs.Bytes.{gap, padded_bytes}
use Rattle.obj_write.specs.Strings.{string_table, name_at}
use Rattle.obj_write.specs.Sections.{FileSection, padded_contents, content_at, head_of}
use Rattle.obj_write.specs.Symbols.{symbol_names, symbol_table_bytes, first_global}
use Rattle.obj_write.specs.Relocations.{relocation_table}
use Rattle.obj_write.specs.Object.{section_type, section_flags, part_head, symbols_head, strings_head, relocations_head, symtab_index, relocated_in, object_section_names, part_section, symtab_section, strtab_section, shstrtab_section, relocation_section, file_sections, shstrtab_index, object_of}
use Rattle.obj_write.proofs.ReadLemmas.{Stands, stands_left, stands_within, stands_each, IsSmall, header}
use Rattle.obj_write.proofs.TableLemmas.{no_section, head_at}
use Rattle.obj_write.proofs.FileLemmas.{table_place, stands_whole, IsLaid, laid, no_head, first_header, next_header}
use Rattle.obj_write.proofs.ObjectLemmas.{no_part, relocated_few, relocated_within, part_of, table_of}
use Rattle.obj_write.proofs.SizeLemmas.{length_sections, part_at, symtab_at, strtab_at, shstrtab_at, relocations_at, at_all, relocations_few, length_symbols}
use Rattle.obj_write.proofs.UnitLemmas.{target_of, symbol_names_few, section_names_few, name_few, few_contents}

-- ---- where contents stand

head_is : (sections : List FileSection) (k : ℕ) (s : FileSection) → get_or sections k no_section ≡ s → head_at sections k ≡ record s.head { offset = content_at sections k }
unfolding head_of
head_is sections k s e = ap (λ (t : FileSection). record t.head { offset = content_at sections k }) e

pub content_stands : (sections : List FileSection) (names : ℕ) (file : List ℕ) (k : ℕ) → IsLaid sections names file → k < length sections
    → Stands file (content_at sections k) (get_or sections k no_section).content
unfolding padded_contents content_at padded_bytes
content_stands sections names file k laid lt =
    let bytes : List ℕ = (get_or sections k no_section).content in
    stands_left file (content_at sections k) bytes (replicate (gap (length bytes)) 0) (stands_each file 52 (λ (s : FileSection). padded_bytes s.content) sections k no_section lt laid.contents)

content_below : (sections : List FileSection) (k : ℕ) → k < length sections → content_at sections k + length ((get_or sections k no_section).content) ≤ table_place sections
unfolding padded_contents content_at padded_bytes
content_below sections k lt =
    let bytes : List ℕ = (get_or sections k no_section).content in
    let s = stands_each (padded_contents sections) 0 (λ (t : FileSection). padded_bytes t.content) sections k no_section lt (stands_whole (padded_contents sections) (padded_contents sections) refl) in
    let within = stands_within (padded_contents sections) (0 + length (flat_map (λ (t : FileSection). padded_bytes t.content) (take k sections))) (padded_bytes bytes) s in
    let n = length-append bytes (replicate (gap (length bytes)) 0) in
    omega (arith, within, n)

-- ---- fields

-- what holds of the type and the flags of each kind of section
pub of_kinds : (P : ℕ → ℕ → Type 0) → P 1 6 → P 1 3 → P 8 3 → (k : SectionKind) → P (section_type k) (section_flags k)
of_kinds P a b c Code = a
of_kinds P a b c Data = b
of_kinds P a b c Bss = c

global_few : (symbols : List SymbolValue) → first_global symbols ≤ 1 + length symbols
unfolding first_global
global_few symbols = let a = prefix_len-le-length (λ (s : SymbolValue). not s.global) symbols in omega (arith, a)

offset_few : (unit : UnitValue) → IsUnit unit → (k : ℕ) → k < length (file_sections unit) → content_at (file_sections unit) k < 2 ^ 32
offset_few unit is k lt = let a = content_below (file_sections unit) k lt in let b = few_contents unit is in omega (arith, a, b)

-- ---- the header of each kind of section, with its place

abbrev pub part_head_read : UnitValue → ℕ → Header
part_head_read unit k = header (record (part_head (get_or unit.sections k no_part) (name_at (object_section_names unit) k)) { offset = content_at (file_sections unit) k })

abbrev pub symbols_read : UnitValue → Header
symbols_read unit = header (record (symbols_head (name_at (object_section_names unit) (length unit.sections)) (length (symbol_table_bytes unit.symbols)) unit) { offset = content_at (file_sections unit) (length unit.sections + 0) })

abbrev pub strings_read : UnitValue → Header
strings_read unit = header (record (strings_head (name_at (object_section_names unit) (length unit.sections + 1)) (length (string_table (symbol_names unit.symbols)))) { offset = content_at (file_sections unit) (length unit.sections + 1) })

abbrev pub names_read : UnitValue → Header
names_read unit = header (record (strings_head (name_at (object_section_names unit) (length unit.sections + 2)) (length (string_table (object_section_names unit)))) { offset = content_at (file_sections unit) (length unit.sections + 2) })

abbrev pub relocations_head_read : UnitValue → ℕ → Header
relocations_head_read unit j = header (record (relocations_head (name_at (object_section_names unit) (length unit.sections + 3 + j)) (length (relocation_table unit.relocations (target_of unit j))) (symtab_index unit) (target_of unit j)) { offset = content_at (file_sections unit) (length unit.sections + (3 + j)) })

-- ---- each field fits a word

small_table : (name kind size link info entry at : ℕ) → name < 2 ^ 32 → kind < 2 ^ 32 → size < 2 ^ 32 → link < 2 ^ 32 → info < 2 ^ 32 → entry < 2 ^ 32 → at < 2 ^ 32
    → let h : Head = record { name = name; kind = kind; flags = 0; offset = at; size = size; link = link; info = info; align = 4; entry_size = entry } in IsSmall h
small_table name kind size link info entry at a b c d e f g =
    record { name = a; kind = b; flags = omega arith; offset = g; size = c; link = d; info = e; align = omega arith; entry_size = f }

small_part : (unit : UnitValue) → IsUnit unit → (k : ℕ) → k < length unit.sections → IsSmall (head_at (file_sections unit) k)
unfolding part_section
small_part unit is k lt =
    let n = length_sections unit in
    let name = name_few unit is k in
    let kind = of_kinds (λ kind flags. kind < 9) (omega arith) (omega arith) (omega arith) (get_or unit.sections k no_part).kind in
    let flags = of_kinds (λ kind flags. flags < 7) (omega arith) (omega arith) (omega arith) (get_or unit.sections k no_part).kind in
    let at = offset_few unit is k (omega (arith, n)) in
    let h = All-get_or IsSectionValue unit.sections k no_part lt is.sections_kept in
    let size = h.small in
    subst IsSmall (sym (head_is (file_sections unit) k (part_of unit k) (part_at unit k lt))) record {
      name = omega (arith, name);
      kind = omega (arith, kind);
      flags = omega (arith, flags);
      offset = at;
      size = omega (arith, size);
      link = omega arith;
      info = omega arith;
      align = omega arith;
      entry_size = omega arith;
    }

small_symtab : (unit : UnitValue) → IsUnit unit → IsSmall (head_at (file_sections unit) (length unit.sections + 0))
unfolding symtab_section
small_symtab unit is =
    let n = length_sections unit in
    let name = name_few unit is (length unit.sections) in
    let at = offset_few unit is (length unit.sections + 0) (omega (arith, n)) in
    let size = length_symbols unit.symbols in
    let few = is.few_symbols in
    let sections = is.few_sections in
    let global = global_few unit.symbols in
    subst IsSmall (sym (head_is (file_sections unit) (length unit.sections + 0) (symtab_section unit) (symtab_at unit)))
    (small_table _ _ _ _ _ _ _ (omega (arith, name)) (omega arith) (omega (arith, size, few)) (omega (arith, sections)) (omega (arith, global, few)) (omega arith) at)

small_strtab : (unit : UnitValue) → IsUnit unit → IsSmall (head_at (file_sections unit) (length unit.sections + 1))
unfolding strtab_section
small_strtab unit is =
    let n = length_sections unit in
    let name = name_few unit is (length unit.sections + 1) in
    let size = symbol_names_few unit is in
    subst IsSmall (sym (head_is (file_sections unit) (length unit.sections + 1) (strtab_section unit) (strtab_at unit)))
    (small_table _ _ _ _ _ _ _ (omega (arith, name)) (omega arith) (omega (arith, size)) (omega arith) (omega arith) (omega arith) (offset_few unit is (length unit.sections + 1) (omega (arith, n))))

small_shstrtab : (unit : UnitValue) → IsUnit unit → IsSmall (head_at (file_sections unit) (length unit.sections + 2))
unfolding shstrtab_section
small_shstrtab unit is =
    let n = length_sections unit in
    let name = name_few unit is (length unit.sections + 2) in
    let size = section_names_few unit is in
    subst IsSmall (sym (head_is (file_sections unit) (length unit.sections + 2) (shstrtab_section unit) (shstrtab_at unit)))
    (small_table _ _ _ _ _ _ _ (omega (arith, name)) (omega arith) (omega (arith, size)) (omega arith) (omega arith) (omega arith) (offset_few unit is (length unit.sections + 2) (omega (arith, n))))

-- a table of relocations is of a section of the unit
pub target_within : (unit : UnitValue) (j : ℕ) → j < length (relocated_in unit) → target_of unit j < length unit.sections
target_within unit j lt = All-get_or (λ i. i < length unit.sections) (relocated_in unit) j 0 lt (relocated_within unit.relocations (length unit.sections))

small_relocations : (unit : UnitValue) → IsUnit unit → (j : ℕ) → j < length (relocated_in unit) → IsSmall (head_at (file_sections unit) (length unit.sections + (3 + j)))
unfolding relocation_section
small_relocations unit is j lt =
    let n = length_sections unit in
    let name = name_few unit is (length unit.sections + 3 + j) in
    let at = offset_few unit is (length unit.sections + (3 + j)) (omega (arith, n)) in
    let size = relocations_few unit.relocations (target_of unit j) in
    let few = is.few_relocations in
    let sections = is.few_sections in
    let target = target_within unit j lt in
    subst IsSmall (sym (head_is (file_sections unit) (length unit.sections + (3 + j)) (table_of unit j) (relocations_at unit j lt)))
    (small_table _ _ _ _ _ _ _ (omega (arith, name)) (omega arith) (omega (arith, size, few)) (omega (arith, sections)) (omega (arith, target, sections)) (omega arith) at)

pub small_heads : (unit : UnitValue) → IsUnit unit → (k : ℕ) → k < length unit.sections + (3 + length (relocated_in unit)) → IsSmall (head_at (file_sections unit) k)
small_heads unit is =
    at_all (λ k. IsSmall (head_at (file_sections unit) k)) unit (small_part unit is) (small_symtab unit is) (small_strtab unit is) (small_shstrtab unit is) (small_relocations unit is)

-- ---- the file

pub unit_laid : (unit : UnitValue) → IsUnit unit → IsLaid (file_sections unit) (shstrtab_index unit) (object_of unit)
unfolding object_of
unit_laid unit is =
    let n = length_sections unit in
    let m = relocated_few unit.relocations (length unit.sections) in
    let few = is.few_sections in
    laid (file_sections unit) (shstrtab_index unit) (few_contents unit is) (omega (arith, n, m, few)) (omega (arith, few))

pub counted_sections : (unit : UnitValue) → IsUnit unit → section_count (object_of unit) ≡ suc (length unit.sections + (3 + length (relocated_in unit)))
counted_sections unit is = let l = unit_laid unit is in let a = l.count in let n = length_sections unit in omega (arith, a, n)

pub zero_header : (unit : UnitValue) → IsUnit unit → header_of (object_of unit) 0 ≡ header no_head
zero_header unit is = first_header (file_sections unit) (shstrtab_index unit) (object_of unit) (unit_laid unit is)

pub any_header : (unit : UnitValue) → IsUnit unit → (k : ℕ) (s : FileSection) → k < length unit.sections + (3 + length (relocated_in unit)) → get_or (file_sections unit) k no_section ≡ s
    → header_of (object_of unit) (suc k) ≡ header (record s.head { offset = content_at (file_sections unit) k })
any_header unit is k s lt at =
    let n = length_sections unit in
    next_header (file_sections unit) (shstrtab_index unit) (object_of unit) k (unit_laid unit is) (omega (arith, n)) (small_heads unit is k lt) ∙ ap header (head_is (file_sections unit) k s at)

pub part_read : (unit : UnitValue) → IsUnit unit → (k : ℕ) → k < length unit.sections → header_of (object_of unit) (suc k) ≡ part_head_read unit k
unfolding part_section
part_read unit is k lt = any_header unit is k (part_of unit k) (omega arith) (part_at unit k lt)

pub symtab_read : (unit : UnitValue) → IsUnit unit → header_of (object_of unit) (suc (length unit.sections + 0)) ≡ symbols_read unit
unfolding symtab_section
symtab_read unit is = any_header unit is (length unit.sections + 0) (symtab_section unit) (omega arith) (symtab_at unit)

pub strtab_read : (unit : UnitValue) → IsUnit unit → header_of (object_of unit) (suc (length unit.sections + 1)) ≡ strings_read unit
unfolding strtab_section
strtab_read unit is = any_header unit is (length unit.sections + 1) (strtab_section unit) (omega arith) (strtab_at unit)

pub shstrtab_read : (unit : UnitValue) → IsUnit unit → header_of (object_of unit) (suc (length unit.sections + 2)) ≡ names_read unit
unfolding shstrtab_section
shstrtab_read unit is = any_header unit is (length unit.sections + 2) (shstrtab_section unit) (omega arith) (shstrtab_at unit)

pub relocations_read : (unit : UnitValue) → IsUnit unit → (j : ℕ) → j < length (relocated_in unit) → header_of (object_of unit) (suc (length unit.sections + (3 + j))) ≡ relocations_head_read unit j
unfolding relocation_section
relocations_read unit is j lt = any_header unit is (length unit.sections + (3 + j)) (table_of unit j) (omega arith) (relocations_at unit j lt)

-- ---- the content of each kind of section

pub section_stands : (unit : UnitValue) → IsUnit unit → (k : ℕ) (s : FileSection) → k < length unit.sections + (3 + length (relocated_in unit)) → get_or (file_sections unit) k no_section ≡ s
    → Stands (object_of unit) (content_at (file_sections unit) k) s.content
section_stands unit is k s lt at =
    let n = length_sections unit in
    subst (λ (t : FileSection). Stands (object_of unit) (content_at (file_sections unit) k) t.content) at
    (content_stands (file_sections unit) (shstrtab_index unit) (object_of unit) k (unit_laid unit is) (omega (arith, n)))

pub part_stands : (unit : UnitValue) → IsUnit unit → (k : ℕ) → k < length unit.sections → Stands (object_of unit) (content_at (file_sections unit) k) ((get_or unit.sections k no_part).bytes)
unfolding part_section
part_stands unit is k lt = section_stands unit is k (part_of unit k) (omega arith) (part_at unit k lt)

pub symbols_stand : (unit : UnitValue) → IsUnit unit → Stands (object_of unit) (symbols_read unit).offset (symbol_table_bytes unit.symbols)
unfolding symtab_section
symbols_stand unit is = section_stands unit is (length unit.sections + 0) (symtab_section unit) (omega arith) (symtab_at unit)

pub strings_stand : (unit : UnitValue) → IsUnit unit → Stands (object_of unit) (strings_read unit).offset (string_table (symbol_names unit.symbols))
unfolding strtab_section
strings_stand unit is = section_stands unit is (length unit.sections + 1) (strtab_section unit) (omega arith) (strtab_at unit)

pub names_stand : (unit : UnitValue) → IsUnit unit → Stands (object_of unit) (names_read unit).offset (string_table (object_section_names unit))
unfolding shstrtab_section
names_stand unit is = section_stands unit is (length unit.sections + 2) (shstrtab_section unit) (omega arith) (shstrtab_at unit)

pub relocations_stand : (unit : UnitValue) → IsUnit unit → (j : ℕ) → j < length (relocated_in unit) → Stands (object_of unit) (relocations_head_read unit j).offset (relocation_table unit.relocations (target_of unit j))
unfolding relocation_section
relocations_stand unit is j lt = section_stands unit is (length unit.sections + (3 + j)) (table_of unit j) (omega arith) (relocations_at unit j lt)

-- the bytes of a section end in the file
pub ends_within : (unit : UnitValue) → IsUnit unit → (k : ℕ) (s : FileSection) → k < length unit.sections + (3 + length (relocated_in unit)) → get_or (file_sections unit) k no_section ≡ s
    → content_at (file_sections unit) k + length s.content ≤ length (object_of unit)
ends_within unit is k s lt at = stands_within (object_of unit) (content_at (file_sections unit) k) s.content (section_stands unit is k s lt at)
