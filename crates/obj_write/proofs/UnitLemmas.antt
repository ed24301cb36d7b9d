-- The headers of a unit's file.
use Rattle.std.proofs.Common.{ℕ, ◌<◌, ◌≤◌, ◌^◌, List, [], ◌++◌, ap, arith, length, take, get_or, length-append}
use Rattle.std.specs.List.{flat_map, All}
use Rattle.std.proofs.lemmas.List.{length-map, length-take}
use Rattle.std.proofs.lemmas.List.Concat.{flat_map-append}
use Rattle.std.proofs.lemmas.List.Elements.{All-get_or, All-take, All-weaker}
use Rattle.elf_objects.specs.Passes.{each_below}
use Rattle.asm_line.specs.declared.statement.SectionKind.{SectionKind}
use Rattle.asm_line.specs.declared.statement.SectionKind.TheVariants.{Code}
use Rattle.asm_text.specs.Parts.{SymbolValue, UnitValue, IsUnit, IsSectionValue, kept_size}
use Rattle.obj_write.specs.Bytes.{padded_bytes}
use Rattle.obj_write.specs.Strings.{string_table, name_at}
use Rattle.obj_write.specs.Sections.{FileSection, padded_contents}
use Rattle.obj_write.specs.Symbols.{symbol_names, symbol_table_bytes}
use Rattle.obj_write.specs.Relocations.{relocation_table}
use Rattle.obj_write.specs.Object.{relocated_in, object_section_names, part_section, symtab_section, strtab_section, shstrtab_section, table_sections, relocation_section, file_sections}
use Rattle.obj_write.proofs.PassLemmas.{flat_map_each}
use Rattle.obj_write.proofs.FileLemmas.{table_place}
use Rattle.obj_write.proofs.ObjectLemmas.{no_part, length_names, relocated_few, part_of, table_of}
use Rattle.obj_write.proofs.SizeLemmas.{sections_each, padded_few, below_few, table_few, relocations_few, length_symbols}
use Rattle.obj_write.proofs.NameLemmas.{IsString, symbol_strings, section_strings}

-- the section of a table of relocations
abbrev pub target_of : UnitValue → ℕ → ℕ
target_of unit j = get_or (relocated_in unit) j 0

-- ---- sizes

kept_few : (k : SectionKind) (size : ℕ) → kept_size k size ≤ size
kept_few Code size = omega arith
kept_few _ size = omega arith

part_few : (unit : UnitValue) → IsUnit unit → (k : ℕ) → k < length unit.sections → length (padded_bytes (get_or unit.sections k no_part).bytes) ≤ 65537
part_few unit is k lt =
    let h = All-get_or IsSectionValue unit.sections k no_part lt is.sections_kept in
    let a = h.small in
    let b = h.filled in
    let c = kept_few (get_or unit.sections k no_part).kind (get_or unit.sections k no_part).size in
    let d = padded_few (get_or unit.sections k no_part).bytes in
    omega (arith, a, b, c, d)

relocation_few : (unit : UnitValue) → IsUnit unit → (j : ℕ) → length (padded_bytes (relocation_table unit.relocations (target_of unit j))) ≤ 12582915
relocation_few unit is j =
    let a = relocations_few unit.relocations (target_of unit j) in
    let b = is.few_relocations in
    let c = padded_few (relocation_table unit.relocations (target_of unit j)) in
    omega (arith, a, b, c)

pub symbol_names_few : (unit : UnitValue) → IsUnit unit → length (string_table (symbol_names unit.symbols)) ≤ 68157441
symbol_names_few unit is =
    let short = All-weaker (IsString 64) (λ (n : List ℕ). length n ≤ 64) (λ n h. h.short) (symbol_names unit.symbols) (symbol_strings unit is) in
    let a = table_few (symbol_names unit.symbols) 64 short in
    let b = length-map unit.symbols (λ (s : SymbolValue). s.name) in
    let c = is.few_symbols in
    omega (arith, a, b, c)

names_short : (unit : UnitValue) → IsUnit unit → All (λ (n : List ℕ). length n ≤ 69) (object_section_names unit)
names_short unit is = All-weaker (IsString 69) (λ (n : List ℕ). length n ≤ 69) (λ n h. h.short) (object_section_names unit) (section_strings unit is)

names_counted : (unit : UnitValue) → IsUnit unit → length (object_section_names unit) ≤ 515
names_counted unit is =
    let a = length_names unit in
    let b = relocated_few unit.relocations (length unit.sections) in
    let c = is.few_sections in
    omega (arith, a, b, c)

pub section_names_few : (unit : UnitValue) → IsUnit unit → length (string_table (object_section_names unit)) ≤ 36051
section_names_few unit is =
    let a = table_few (object_section_names unit) 69 (names_short unit is) in
    let b = names_counted unit is in
    omega (arith, a, b)

pub name_few : (unit : UnitValue) → IsUnit unit → (k : ℕ) → name_at (object_section_names unit) k ≤ 36051
unfolding name_at
name_few unit is k =
    let a = table_few (take k (object_section_names unit)) 69 (All-take (λ (n : List ℕ). length n ≤ 69) k (object_section_names unit) (names_short unit is)) in
    let b = names_counted unit is in
    let c = length-take k (object_section_names unit) in
    omega (arith, a, b, c)

few_tables : (unit : UnitValue) → IsUnit unit
    → length (padded_bytes (symbol_table_bytes unit.symbols) ++ (padded_bytes (string_table (symbol_names unit.symbols)) ++ (padded_bytes (string_table (object_section_names unit)) ++ []))) ≤ 84970733
few_tables unit is =
    let a : List ℕ = padded_bytes (symbol_table_bytes unit.symbols) in
    let b : List ℕ = padded_bytes (string_table (symbol_names unit.symbols)) in
    let c : List ℕ = padded_bytes (string_table (object_section_names unit)) in
    let e₁ = length-append a (b ++ (c ++ [])) in
    let e₂ = length-append b (c ++ []) in
    let e₃ = length-append c [] in
    let a' = padded_few (symbol_table_bytes unit.symbols) in
    let b' = padded_few (string_table (symbol_names unit.symbols)) in
    let c' = padded_few (string_table (object_section_names unit)) in
    let x = length_symbols unit.symbols in
    let y = symbol_names_few unit is in
    let z = section_names_few unit is in
    let m = is.few_symbols in
    omega (arith, e₁, e₂, e₃, a', b', c', x, y, z, m)

-- the file has fewer than 2 ^ 32 bytes before its headers
pub few_contents : (unit : UnitValue) → IsUnit unit → table_place (file_sections unit) < 2 ^ 32
unfolding padded_contents part_section symtab_section strtab_section shstrtab_section relocation_section
few_contents unit is =
    let f : FileSection → List ℕ = λ s. padded_bytes s.content in
    let parts : List FileSection = each_below (part_of unit) (length unit.sections) in
    let others : List FileSection = each_below (table_of unit) (length (relocated_in unit)) in
    let e = ap (λ l. length (flat_map f l)) (sections_each unit) in
    let e₁ = ap length (flat_map-append f parts (table_sections unit ++ others)) in
    let e₂ = length-append (flat_map f parts) (flat_map f (table_sections unit ++ others)) in
    let e₃ = ap length (flat_map-append f (table_sections unit) others) in
    let e₄ = length-append (flat_map f (table_sections unit)) (flat_map f others) in
    let p = ap length (flat_map_each f (part_of unit) (length unit.sections)) in
    let p' = below_few (λ k. f (part_of unit k)) 65537 (length unit.sections) (λ k lt. part_few unit is k lt) in
    let r = ap length (flat_map_each f (table_of unit) (length (relocated_in unit))) in
    let r' = below_few (λ j. f (table_of unit j)) 12582915 (length (relocated_in unit)) (λ j lt. relocation_few unit is j) in
    let n = is.few_sections in
    let m = relocated_few unit.relocations (length unit.sections) in
    let t : length (flat_map f (table_sections unit)) ≤ 84970733 = few_tables unit is in
    omega (arith, e, e₁, e₂, e₃, e₄, p, p', r, r', n, m, t)
