-- The faults that the sections of a unit's file do not have: those of sections, links, names and flags.
use Rattle.std.proofs.Common.{◌≡◌, ℕ, zero, suc, ◌+◌, ◌/◌, ◌%◌, ◌<◌, ◌≤◌, List, [], refl, ap, sym, subst, ◌∙◌, arith, length, get_or, Bool, true, false, not, ltb, eqb, ◌&&◌, ◌||◌, Option, Some, None, is_none}
use Rattle.std.proofs.lemmas.List.Elements.{All-get_or}
use Rattle.std.proofs.lemmas.Bool.{le-ltb}
use Rattle.elf_objects.specs.declared.fault.ElfFault.{ElfFault}
use Rattle.elf_objects.specs.declared.fault.ElfFault.TheVariants as fault
use Rattle.std.specs.Bool.{then_some}
use Rattle.elf_objects.specs.declared.section.Header.{Header}
use Rattle.elf_objects.specs.Header.{section_count, name_table}
use Rattle.elf_objects.specs.Section.{header_of, content, ends_past, is_absent, is_loaded, is_loaded_header, is_alignment, section_fault, section_faults, compressed_fault, compressed_faults, rel_fault, rel_faults}
use Rattle.elf_objects.specs.Names.{end_in, name_end, name_fault, name_faults}
use Rattle.asm_line.specs.declared.statement.SectionKind.{SectionKind}
use Rattle.asm_line.specs.declared.statement.SectionKind.TheVariants.{Code, Data, Bss}
use Rattle.asm_text.specs.Parts.{SectionValue, UnitValue, IsUnit, IsSectionValue, kept_size}
use Rattle.obj_write.specs.Strings.{string_table, name_at}
use Rattle.obj_write.specs.Sections.{FileSection, content_at}
use Rattle.obj_write.specs.Object.{section_type, section_flags, relocated_in, object_section_names, part_section, symtab_section, strtab_section, shstrtab_section, relocation_section, file_sections, object_of}
use Rattle.obj_write.proofs.ReadLemmas.{header}
use Rattle.obj_write.proofs.FileLemmas.{nothing_below, no_head}
use Rattle.obj_write.proofs.ObjectLemmas.{no_part, length_names, part_of, table_of}
use Rattle.obj_write.proofs.TableLemmas.{no_section}
use Rattle.obj_write.proofs.SizeLemmas.{part_at, symtab_at, strtab_at, shstrtab_at, relocations_at, at_all}
use Rattle.obj_write.proofs.NameLemmas.{name_ends, no_name_ends, content_read, section_strings}
use Rattle.obj_write.proofs.HeaderLemmas.{of_kinds, any_header, part_head_read, symbols_read, strings_read, names_read, relocations_head_read, names_stand, unit_laid, counted_sections, zero_header, part_read, symtab_read, strtab_read, shstrtab_read, relocations_read, ends_within}

-- what holds of section 0 and of each kind of section holds at each index
pub every_index : (P : ℕ → Type 0) (unit : UnitValue) → IsUnit unit → P 0 → ((k : ℕ) → k < length unit.sections → P (suc k)) → P (suc (length unit.sections + 0)) → P (suc (length unit.sections + 1)) → P (suc (length unit.sections + 2))
    → ((j : ℕ) → j < length (relocated_in unit) → P (suc (length unit.sections + (3 + j)))) → (i : ℕ) → i < section_count (object_of unit) → P i
every_index P unit is first parts a b c others zero lt = first
every_index P unit is first parts a b c others (suc k) lt = let n = counted_sections unit is in at_all (λ i. P (suc i)) unit parts a b c others k (omega (arith, n))

-- the same by the headers that are read
pub every_header : (P : ℕ → Header → Type 0) (unit : UnitValue) → IsUnit unit → P 0 (header no_head) → ((k : ℕ) → k < length unit.sections → P (suc k) (part_head_read unit k)) → P (suc (length unit.sections + 0)) (symbols_read unit)
    → P (suc (length unit.sections + 1)) (strings_read unit) → P (suc (length unit.sections + 2)) (names_read unit) → ((j : ℕ) → j < length (relocated_in unit) → P (suc (length unit.sections + (3 + j))) (relocations_head_read unit j))
    → (i : ℕ) → i < section_count (object_of unit) → P i (header_of (object_of unit) i)
every_header P unit is first parts a b c others =
    let n : ℕ = length unit.sections in
    every_index (λ i. P i (header_of (object_of unit) i)) unit is (subst (P 0) (sym (zero_header unit is)) first) (λ k lt. subst (P (suc k)) (sym (part_read unit is k lt)) (parts k lt))
    (subst (P (suc (n + 0))) (sym (symtab_read unit is)) a) (subst (P (suc (n + 1))) (sym (strtab_read unit is)) b) (subst (P (suc (n + 2))) (sym (shstrtab_read unit is)) c)
    (λ j lt. subst (P (suc (n + (3 + j)))) (sym (relocations_read unit is j lt)) (others j lt))

-- ---- sections

zero_section : (unit : UnitValue) → IsUnit unit → section_fault (object_of unit) 0 ≡ None
unfolding section_fault
zero_section unit is = rw (zero_header unit is) refl

part_sound : (K : SectionKind) (len at size bytes : ℕ) (f : ElfFault) → bytes ≡ kept_size K size → at + bytes ≤ len
    → then_some ((not (eqb (section_type K) 0 || eqb (section_type K) 8) && ltb len (at + size)) || (is_loaded (section_type K) (section_flags K) && not (is_alignment 2))) f ≡ None
part_sound Code len at size bytes f e le = let p : ltb len (at + size) ≡ false = le-ltb len (at + size) (omega arith) in rw p refl
part_sound Data len at size bytes f e le = let p : ltb len (at + size) ≡ false = le-ltb len (at + size) (omega arith) in rw p refl
part_sound Bss len at size bytes f e le = refl

part_fault : (unit : UnitValue) → IsUnit unit → (k : ℕ) → k < length unit.sections → section_fault (object_of unit) (suc k) ≡ None
unfolding section_fault part_section
part_fault unit is k lt =
    let s : SectionValue = get_or unit.sections k no_part in
    let within : content_at (file_sections unit) k + length s.bytes ≤ length (object_of unit) = ends_within unit is k (part_of unit k) (omega arith) (part_at unit k lt) in
    let h = All-get_or IsSectionValue unit.sections k no_part lt is.sections_kept in
    rw (part_read unit is k lt) (part_sound s.kind (length (object_of unit)) (content_at (file_sections unit) k) s.size (length s.bytes) (fault.Section (suc k)) h.filled within)

-- a table that stands in the file has no fault
table_fault_by : (unit : UnitValue) → IsUnit unit → (k : ℕ) (s : FileSection) → k < length unit.sections + (3 + length (relocated_in unit)) → get_or (file_sections unit) k no_section ≡ s
    → s.head.size ≡ length s.content → is_loaded s.head.kind s.head.flags ≡ false → section_fault (object_of unit) (suc k) ≡ None
unfolding section_fault
table_fault_by unit is k s lt at size flat =
    let file : List ℕ = object_of unit in
    let place : ℕ = content_at (file_sections unit) k in
    let h : Header = header (record s.head { offset = place }) in
    let within = ends_within unit is k s lt at in
    let past : ltb (length file) (place + s.head.size) ≡ false = le-ltb (length file) (place + s.head.size) (omega (arith, within, size)) in
    ap (λ (x : Header). then_some ((not (is_absent x) && ends_past file x) || (is_loaded_header x && not (is_alignment x.align))) (fault.Section (suc k))) (any_header unit is k s lt at)
    ∙ by (not (is_absent h)) (ltb (length file) (place + s.head.size)) (is_loaded_header h) past flat where
      by : (a b c : Bool) → b ≡ false → c ≡ false → then_some ((a && b) || (c && not (is_alignment s.head.align))) (fault.Section (suc k)) ≡ None
      by true b c p q = rw (p, q) refl
      by false b c p q = rw q refl

pub no_section_faults : (unit : UnitValue) → IsUnit unit → section_faults (object_of unit) ≡ None
unfolding section_faults symtab_section strtab_section shstrtab_section relocation_section
no_section_faults unit is =
    let n : ℕ = length unit.sections in
    nothing_below (section_fault (object_of unit)) (section_count (object_of unit))
    (every_index (λ i. section_fault (object_of unit) i ≡ None) unit is (zero_section unit is) (part_fault unit is)
    (table_fault_by unit is (n + 0) (symtab_section unit) (omega arith) (symtab_at unit) refl refl)
    (table_fault_by unit is (n + 1) (strtab_section unit) (omega arith) (strtab_at unit) refl refl)
    (table_fault_by unit is (n + 2) (shstrtab_section unit) (omega arith) (shstrtab_at unit) refl refl)
    (λ j lt. table_fault_by unit is (n + (3 + j)) (table_of unit j) (omega arith) (relocations_at unit j lt) refl refl))

-- ---- flags

pub no_compressed_faults : (unit : UnitValue) → IsUnit unit → compressed_faults (object_of unit) ≡ None
unfolding compressed_faults compressed_fault
no_compressed_faults unit is =
    nothing_below (compressed_fault (object_of unit)) (section_count (object_of unit))
    (every_header (λ i h. then_some (is_loaded_header h && eqb (h.flags / 2048 % 2) 1) (fault.Compressed i) ≡ None) unit is refl
    (λ k lt. of_kinds (λ kind flags. then_some (is_loaded kind flags && eqb (flags / 2048 % 2) 1) (fault.Compressed (suc k)) ≡ None) refl refl refl (get_or unit.sections k no_part).kind) refl refl refl (λ j lt. refl))

pub no_rel_faults : (unit : UnitValue) → IsUnit unit → rel_faults (object_of unit) ≡ None
unfolding rel_faults rel_fault
no_rel_faults unit is =
    let file : List ℕ = object_of unit in
    nothing_below (rel_fault file) (section_count file)
    (every_header (λ i h. then_some (eqb h.kind 9 && is_loaded_header (header_of file h.info)) (fault.RelSection i) ≡ None) unit is refl
    (λ k lt. of_kinds (λ kind flags. then_some (eqb kind 9 && is_loaded_header (header_of file 0)) (fault.RelSection (suc k)) ≡ None) refl refl refl (get_or unit.sections k no_part).kind) refl refl refl (λ j lt. refl))

-- ---- names

pub names_at : (unit : UnitValue) → IsUnit unit → name_table (object_of unit) ≡ suc (length unit.sections + 2)
names_at unit is = let l = unit_laid unit is in let e = l.strings in omega (arith, e)

pub names_content : (unit : UnitValue) → IsUnit unit → content (object_of unit) (header_of (object_of unit) (name_table (object_of unit))) ≡ string_table (object_section_names unit)
names_content unit is =
    ap (λ i. content (object_of unit) (header_of (object_of unit) i)) (names_at unit is)
    ∙ (ap (content (object_of unit)) (shstrtab_read unit is) ∙ content_read (object_of unit) (names_read unit) (string_table (object_section_names unit)) refl (names_stand unit is))

name_by : (unit : UnitValue) → IsUnit unit → (i at end : ℕ) → (header_of (object_of unit) i).name ≡ at → end_in (string_table (object_section_names unit)) at ≡ Some end → name_fault (object_of unit) i ≡ None
unfolding name_fault name_end
name_by unit is i at end e ends =
    ap (λ l. then_some (is_none (end_in l ((header_of (object_of unit) i).name))) (fault.Name i)) (names_content unit is)
    ∙ (ap (λ n. then_some (is_none (end_in (string_table (object_section_names unit)) n)) (fault.Name i)) e
    ∙ ap (λ (o : Option ℕ). then_some (is_none o) (fault.Name i)) ends)

section_name_ends : (unit : UnitValue) → IsUnit unit → (k : ℕ) → k < length unit.sections + (3 + length (relocated_in unit))
    → end_in (string_table (object_section_names unit)) (name_at (object_section_names unit) k) ≡ Some (name_at (object_section_names unit) k + length (get_or (object_section_names unit) k []))
section_name_ends unit is k lt = let n = length_names unit in name_ends (object_section_names unit) 69 k (omega (arith, n)) (section_strings unit is)

pub no_name_faults : (unit : UnitValue) → IsUnit unit → name_faults (object_of unit) ≡ None
unfolding name_faults
no_name_faults unit is =
    let file : List ℕ = object_of unit in
    let n : ℕ = length unit.sections in
    nothing_below (name_fault file) (section_count file)
    (every_index (λ i. name_fault file i ≡ None) unit is
    (name_by unit is 0 0 0 (ap (λ (h : Header). h.name) (zero_header unit is)) (no_name_ends (object_section_names unit)))
    (λ k lt. name_by unit is (suc k) _ _ (ap (λ (h : Header). h.name) (part_read unit is k lt)) (section_name_ends unit is k (omega arith)))
    (name_by unit is (suc (n + 0)) _ _ (ap (λ (h : Header). h.name) (symtab_read unit is)) (section_name_ends unit is n (omega arith)))
    (name_by unit is (suc (n + 1)) _ _ (ap (λ (h : Header). h.name) (strtab_read unit is)) (section_name_ends unit is (n + 1) (omega arith)))
    (name_by unit is (suc (n + 2)) _ _ (ap (λ (h : Header). h.name) (shstrtab_read unit is)) (section_name_ends unit is (n + 2) (omega arith)))
    (λ j lt. name_by unit is (suc (n + (3 + j))) _ _ (ap (λ (h : Header). h.name) (relocations_read unit is j lt)) (section_name_ends unit is (n + 3 + j) (omega arith))))
