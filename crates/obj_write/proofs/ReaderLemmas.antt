-- The object that is read of a unit's file is the unit's.
use Rattle.std.proofs.Common.{◌≡◌, ℕ, suc, ◌+◌, ◌-◌, ◌<◌, List, [], ◌∷◌, ◌++◌, refl, ap, sym, subst, ◌∙◌, arith, length, take, drop, get_or, cond, eqb, ◌||◌, Some, not, unwrap_or}
use Rattle.std.specs.Prelude.{slice_range}
use Rattle.std.specs.List.{flat_map, All, prefix_len}
use Rattle.std.proofs.lemmas.List.{take_at, length-map, nil_from_length, get_or-map, get_or_append_left}
use Rattle.std.proofs.lemmas.List.Elements.{All-get_or}
use Rattle.elf_objects.specs.declared.section.Header.{Header}
use Rattle.elf_objects.specs.declared.object.Span.{Span}
use Rattle.elf_objects.specs.Header.{name_table}
use Rattle.elf_objects.specs.Section.{header_of, content, content_span}
use Rattle.elf_objects.specs.Names.{end_in, name_end, name_span, section_of}
use Rattle.elf_objects.proofs.ZeroLemmas.{name_long}
use Rattle.asm_line.specs.declared.statement.SectionKind.{SectionKind}
use Rattle.asm_line.specs.declared.statement.SectionKind.TheVariants.{Code, Data, Bss}
use Rattle.asm_text.specs.Parts.{SectionValue, UnitValue, IsUnit, IsSectionValue, kept_size}
use Rattle.obj_write.specs.Strings.{terminated, string_table, name_at}
use Rattle.obj_write.specs.Sections.{content_at}
use Rattle.obj_write.specs.Object.{section_type, part_names, table_names, relocation_names, object_section_names, file_sections, object_of}
use Rattle.obj_write.specs.Reader.{IsPartRead}
use Rattle.obj_write.proofs.ReadLemmas.{Stands, stands_left, stands_right, stands_drop, stands_each}
use Rattle.obj_write.proofs.ObjectLemmas.{no_part, length_names}
use Rattle.obj_write.proofs.NameLemmas.{IsString, name_ends, section_strings}
use Rattle.obj_write.proofs.HeaderLemmas.{names_read, part_read, shstrtab_read, part_stands, names_stand}
use Rattle.obj_write.proofs.FaultLemmas.{names_at, names_content}

-- ---- bytes by their place

range_by : (file : List ℕ) (at end : ℕ) (bytes : List ℕ) → end ≡ at + length bytes → Stands file at bytes → slice_range file at end ≡ bytes
range_by file at end bytes e s =
    let n : end - at ≡ length bytes = omega arith in
    ap (λ k. take k (drop at file)) n ∙ (ap (take (length bytes)) (stands_drop file at bytes s) ∙ take_at bytes s.rest (length bytes) refl)

name_stands : (file : List ℕ) (at : ℕ) (names : List (List ℕ)) (k : ℕ) → k < length names → Stands file at (string_table names) → Stands file (at + name_at names k) (get_or names k [])
unfolding string_table name_at
name_stands file at names k lt s =
    let list : List ℕ = flat_map terminated names in
    let r = stands_right file at (at + 1) (0 ∷ []) list refl s in
    let t = stands_each file (at + 1) terminated names k [] lt r in
    let e : at + 1 + length (flat_map terminated (take k names)) ≡ at + suc (length (flat_map terminated (take k names))) = omega arith in
    subst (λ (m : ℕ). Stands file m (get_or names k [])) e (stands_left file (at + 1 + length (flat_map terminated (take k names))) (get_or names k []) (0 ∷ []) t)

-- a name, by the span that the reader gives
pub name_range : (file : List ℕ) (strings : Header) (names : List (List ℕ)) (most k at : ℕ) → content file strings ≡ string_table names → Stands file strings.offset (string_table names)
    → at ≡ name_at names k → k < length names → All (IsString most) names
    → slice_range file ((name_span file strings at).start) ((name_span file strings at).end) ≡ get_or names k []
unfolding name_end
name_range file strings names most k at held s is lt all =
    let off : ℕ = strings.offset in
    let name : List ℕ = get_or names k [] in
    let ends : name_end file strings at ≡ Some (name_at names k + length name) = ap (λ l. end_in l at) held ∙ (ap (end_in (string_table names)) is ∙ name_ends names most k lt all) in
    let rest : List ℕ = drop at (content file strings) in
    let last : ℕ = at + length rest in
    let long : name_at names k + length name ≡ at + prefix_len (λ b. not (eqb b 0)) rest = sym (ap (λ o. unwrap_or o last) ends) ∙ name_long rest at last refl in
    ap (λ n. slice_range file (off + n) ((name_span file strings at).end)) is
    ∙ range_by file (off + name_at names k) ((name_span file strings at).end) name (omega (arith, long, is)) (name_stands file off names k lt s)

-- ---- sections

names_header : (unit : UnitValue) → IsUnit unit → header_of (object_of unit) (name_table (object_of unit)) ≡ names_read unit
names_header unit is = ap (header_of (object_of unit)) (names_at unit is) ∙ shstrtab_read unit is

part_name : (unit : UnitValue) (k : ℕ) → k < length unit.sections → get_or (object_section_names unit) k [] ≡ (get_or unit.sections k no_part).name
unfolding object_section_names
part_name unit k lt =
    let n = length-map unit.sections (λ (s : SectionValue). s.name) in
    get_or_append_left (part_names unit.sections) (table_names ++ relocation_names unit) [] k (omega (arith, n))
    ∙ get_or-map (λ (s : SectionValue). s.name) unit.sections k no_part [] lt

bytes_by : (file : List ℕ) (K : SectionKind) (at size : ℕ) (bytes : List ℕ) → length bytes ≡ kept_size K size → Stands file at bytes
    → let span : Span = cond (eqb (section_type K) 0 || eqb (section_type K) 8) (record { start = 0; end = 0 }) (record { start = at; end = at + size }) in slice_range file span.start span.end ≡ bytes
bytes_by file Code at size bytes e s = range_by file at (at + size) bytes (omega (arith, e)) s
bytes_by file Data at size bytes e s = range_by file at (at + size) bytes (omega (arith, e)) s
bytes_by file Bss at size bytes e s = sym (nil_from_length bytes e)

pub part_given : (unit : UnitValue) → IsUnit unit → (k : ℕ) → k < length unit.sections → IsPartRead (object_of unit) (get_or unit.sections k no_part) (section_of (object_of unit) (suc k))
unfolding section_of
part_given unit is k lt =
    let file : List ℕ = object_of unit in
    let s : SectionValue = get_or unit.sections k no_part in
    let read = part_read unit is k lt in
    let h = All-get_or IsSectionValue unit.sections k no_part lt is.sections_kept in
    let n = length_names unit in
    let strings : Header = header_of file (name_table file) in
    let stands : Stands file strings.offset (string_table (object_section_names unit)) = subst (λ (x : Header). Stands file x.offset (string_table (object_section_names unit))) (sym (names_header unit is)) (names_stand unit is) in
    record {
      name = name_range file strings (object_section_names unit) 69 k ((header_of file (suc k)).name) (names_content unit is) stands (ap (λ (x : Header). x.name) read) (omega (arith, n)) (section_strings unit is) ∙ part_name unit k lt;
      kind = ap (λ (x : Header). x.kind) read;
      flags = ap (λ (x : Header). x.flags) read;
      size = ap (λ (x : Header). x.size) read;
      align = ap (λ (x : Header). x.align) read;
      bytes = ap (λ (x : Header). slice_range file ((content_span x).start) ((content_span x).end)) read ∙ bytes_by file s.kind (content_at (file_sections unit) k) s.size s.bytes h.filled (part_stands unit is k lt);
    }
