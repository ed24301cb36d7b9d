-- How many bytes the parts of a unit's file have.
use Rattle.std.proofs.Common.{◌≡◌, ℕ, zero, suc, ◌+◌, ◌*◌, ◌-◌, ◌<◌, ◌≤◌, List, [], ◌∷◌, ◌++◌, refl, ap, sym, subst, ◌∙◌, arith, length, get_or, length-append, Bool, eqb, inl, inr, replicate}
use Rattle.std.specs.List.{flat_map, All}
use Rattle.std.proofs.lemmas.Bool.{cases_lt}
use Rattle.std.proofs.lemmas.List.{length-replicate, get_or_append_left, get_or-append-add}
use Rattle.std.proofs.lemmas.List.Sums.{length-filter, count_by-le-length}
use Rattle.std.proofs.lemmas.List.Elements.{All-head, All-tail}
use Rattle.elf_objects.specs.Passes.{each_below, all_below}
use Rattle.elf_objects.proofs.PassLemmas.{length_each_below, at_each}
use Rattle.asm_text.specs.declared.unit.AsmRelocation.{AsmRelocation}
use Rattle.asm_text.specs.Parts.{SymbolValue, UnitValue}
use Rattle.elf_objects.specs.Numbers.{symbol_size}
use Rattle.obj_write.specs.Bytes.{gap, padded_bytes}
use Rattle.obj_write.specs.Strings.{terminated, string_table}
use Rattle.obj_write.specs.Sections.{FileSection}
use Rattle.obj_write.specs.Symbols.{symbol_entry, symbol_entry_at, symbol_table_bytes}
use Rattle.obj_write.specs.Relocations.{relocation_entry, relocations_in, relocation_table}
use Rattle.obj_write.specs.Object.{relocated_in, symtab_section, strtab_section, shstrtab_section, table_sections, relocation_sections, file_sections}
use Rattle.obj_write.proofs.ReadLemmas.{length_below}
use Rattle.obj_write.proofs.RelocationLemmas.{length_entry}
use Rattle.obj_write.proofs.TableLemmas.{no_section}
use Rattle.obj_write.proofs.ObjectLemmas.{part_of, parts_each, table_of, tables_each}
use Rattle.obj_write.proofs.SymbolLemmas.{entry_at, entries_below}

-- ---- where each section is in the list

-- by their indexes
pub sections_each : (unit : UnitValue)
    → file_sections unit ≡ each_below (part_of unit) (length unit.sections) ++ (table_sections unit ++ each_below (table_of unit) (length (relocated_in unit)))
unfolding file_sections
sections_each unit =
    ap (λ l. l ++ (table_sections unit ++ relocation_sections unit)) (parts_each unit)
    ∙ ap (λ l. each_below (part_of unit) (length unit.sections) ++ (table_sections unit ++ l)) (tables_each unit)

pub length_sections : (unit : UnitValue) → length (file_sections unit) ≡ length unit.sections + (3 + length (relocated_in unit))
length_sections unit =
    let e = ap length (sections_each unit) in
    let a = length-append (each_below (part_of unit) (length unit.sections)) (table_sections unit ++ each_below (table_of unit) (length (relocated_in unit))) in
    let b = length-append (table_sections unit) (each_below (table_of unit) (length (relocated_in unit))) in
    let c = length_each_below (part_of unit) (length unit.sections) in
    let d = length_each_below (table_of unit) (length (relocated_in unit)) in
    omega (arith, e, a, b, c, d)

pub part_at : (unit : UnitValue) (k : ℕ) → k < length unit.sections → get_or (file_sections unit) k no_section ≡ part_of unit k
part_at unit k lt =
    let c = length_each_below (part_of unit) (length unit.sections) in
    let others : List FileSection = table_sections unit ++ each_below (table_of unit) (length (relocated_in unit)) in
    ap (λ (l : List FileSection). get_or l k no_section) (sections_each unit)
    ∙ (get_or_append_left (each_below (part_of unit) (length unit.sections)) others no_section k (omega (arith, c)) ∙ at_each (part_of unit) (length unit.sections) k no_section lt)

after_parts : (unit : UnitValue) (j : ℕ) → get_or (file_sections unit) (length unit.sections + j) no_section
    ≡ get_or (table_sections unit ++ each_below (table_of unit) (length (relocated_in unit))) j no_section
after_parts unit j =
    let parts : List FileSection = each_below (part_of unit) (length unit.sections) in
    let others : List FileSection = table_sections unit ++ each_below (table_of unit) (length (relocated_in unit)) in
    ap (λ (l : List FileSection). get_or l (length unit.sections + j) no_section) (sections_each unit)
    ∙ (ap (λ (n : ℕ). get_or (parts ++ others) (n + j) no_section) (sym (length_each_below (part_of unit) (length unit.sections))) ∙ get_or-append-add parts others j no_section)

pub symtab_at : (unit : UnitValue) → get_or (file_sections unit) (length unit.sections + 0) no_section ≡ symtab_section unit
symtab_at unit = after_parts unit 0

pub strtab_at : (unit : UnitValue) → get_or (file_sections unit) (length unit.sections + 1) no_section ≡ strtab_section unit
strtab_at unit = after_parts unit 1

pub shstrtab_at : (unit : UnitValue) → get_or (file_sections unit) (length unit.sections + 2) no_section ≡ shstrtab_section unit
shstrtab_at unit = after_parts unit 2

pub relocations_at : (unit : UnitValue) (j : ℕ) → j < length (relocated_in unit) → get_or (file_sections unit) (length unit.sections + (3 + j)) no_section ≡ table_of unit j
relocations_at unit j lt =
    after_parts unit (3 + j) ∙ (get_or-append-add (table_sections unit) (each_below (table_of unit) (length (relocated_in unit))) j no_section
    ∙ at_each (table_of unit) (length (relocated_in unit)) j no_section lt)

-- what holds of each kind of section holds of all
pub at_all : (P : ℕ → Type 0) (unit : UnitValue) → ((k : ℕ) → k < length unit.sections → P k) → P (length unit.sections + 0) → P (length unit.sections + 1) → P (length unit.sections + 2)
    → ((j : ℕ) → j < length (relocated_in unit) → P (length unit.sections + (3 + j)))
    → (k : ℕ) → k < length unit.sections + (3 + length (relocated_in unit)) → P k
at_all P unit parts a b c others k lt = elim (cases_lt k (length unit.sections)) [
  | inl less ↦ parts k less
  | inr more ↦
      let e : length unit.sections + (k - length unit.sections) ≡ k = omega arith in
      subst P e (at_rest P unit a b c others (k - length unit.sections) (omega arith))
] where
  at_rest : (P : ℕ → Type 0) (unit : UnitValue) → P (length unit.sections + 0) → P (length unit.sections + 1) → P (length unit.sections + 2)
      → ((j : ℕ) → j < length (relocated_in unit) → P (length unit.sections + (3 + j)))
      → (i : ℕ) → i < 3 + length (relocated_in unit) → P (length unit.sections + i)
  at_rest P unit a b c others zero lt = a
  at_rest P unit a b c others (suc zero) lt = b
  at_rest P unit a b c others (suc (suc zero)) lt = c
  at_rest P unit a b c others (suc (suc (suc j))) lt =
      let e : length unit.sections + (3 + j) ≡ length unit.sections + suc (suc (suc j)) = omega arith in
      subst P e (others j (omega arith))

-- ---- sizes

pub padded_few : (bytes : List ℕ) → length (padded_bytes bytes) ≤ length bytes + 3
unfolding padded_bytes
padded_few bytes =
    let a = length-append bytes (replicate (gap (length bytes)) 0) in
    let b = length-replicate {A = ℕ} (gap (length bytes)) 0 in
    omega (arith, a, b)

pub below_few : (f : ℕ → List ℕ) (most n : ℕ) → ((k : ℕ) → k < n → length (f k) ≤ most) → length (all_below f n) ≤ most * n
unfolding all_below
below_few f most zero each = omega arith
below_few f most (suc n) each =
    let a = length-append (all_below f n) (f n) in
    let b = below_few f most n (λ k lt. each k (omega arith)) in
    let c = each n (omega arith) in
    omega (arith, a, b, c)

pub table_few : (names : List (List ℕ)) (most : ℕ) → All (λ n. length n ≤ most) names → length (string_table names) ≤ 1 + (most + 1) * length names
unfolding string_table
table_few names most all = let e = by names most all in omega (arith, e) where
  by : (names : List (List ℕ)) (most : ℕ) → All (λ n. length n ≤ most) names → length (flat_map terminated names) ≤ (most + 1) * length names
  by [] most all = omega arith
  by (name ∷ names) most all =
      let a = length-append (terminated name) (flat_map terminated names) in
      let b = length-append name (0 ∷ []) in
      let c = All-head (λ (n : List ℕ). length n ≤ most) name names all in
      let d = by names most (All-tail (λ (n : List ℕ). length n ≤ most) name names all) in
      omega (arith, a, b, c, d)

pub entries_length : (rs : List AsmRelocation) → length (flat_map relocation_entry rs) ≡ 12 * length rs
entries_length [] = refl
entries_length (r ∷ rs) =
    let a = length-append (relocation_entry r) (flat_map relocation_entry rs) in
    let b = length_entry r in
    let c = entries_length rs in
    omega (arith, a, b, c)

pub length_relocations : (rs : List AsmRelocation) (i : ℕ) → length (relocation_table rs i) ≡ 12 * length (relocations_in rs i)
unfolding relocation_table
length_relocations rs i = entries_length (relocations_in rs i)

pub relocations_few : (rs : List AsmRelocation) (i : ℕ) → length (relocation_table rs i) ≤ 12 * length rs
relocations_few rs i =
    let its : AsmRelocation → Bool = λ r. eqb r.section i in
    let a = length_relocations rs i in
    let b = length-filter its rs in
    let c = count_by-le-length its rs in
    omega (arith, a, b, c)

pub length_symbol_at : (symbols : List SymbolValue) (k : ℕ) → length (entry_at symbols k) ≡ 16
unfolding symbol_entry_at symbol_entry
length_symbol_at symbols k = refl

pub length_symbols : (symbols : List SymbolValue) → length (symbol_table_bytes symbols) ≡ 16 + 16 * length symbols
length_symbols symbols =
    let e = ap length (entries_below symbols) in
    let a = length-append (replicate symbol_size 0) (all_below (entry_at symbols) (length symbols)) in
    let b = length_below (entry_at symbols) 16 (length symbols) (λ k lt. length_symbol_at symbols k) in
    omega (arith, e, a, b)
