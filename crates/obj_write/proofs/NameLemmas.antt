-- Names in string tables, as the object reader finds their ends.
use Rattle.std.proofs.Common.{◌≡◌, ℕ, zero, suc, ◌+◌, ◌<◌, ◌≤◌, List, [], ◌∷◌, ◌++◌, map, refl, ap, sym, ◌∙◌, arith, append_assoc, length, take, drop, get_or, Bool, true, false, not, cond, eqb, nat_le, ◌&&◌, Some}
use Rattle.std.specs.Prelude.{codes}
use Rattle.std.specs.List.{flat_map, All, list_all, position_from}
use Rattle.std.proofs.lemmas.Bool.Decides.{nat_tests}
use Rattle.std.proofs.lemmas.List.{take_at, take-append-drop, drop_at, drop_more}
use Rattle.std.proofs.lemmas.List.Concat.{flat_map-append}
use Rattle.std.proofs.lemmas.List.Elements.{All-nil, All-cons, All-get_or, All-append, All-map, All-same, All-weaker}
use Rattle.std.proofs.lemmas.Bool.{and_from, and_parts}
use Rattle.elf_objects.specs.declared.section.Header.{Header}
use Rattle.elf_objects.specs.Section.{content}
use Rattle.elf_objects.specs.Names.{end_in}
use Rattle.asm_text.specs.Parts.{SectionValue, SymbolValue, UnitValue, IsUnit, IsSectionValue, IsSymbolValue}
use Rattle.asm_line.specs.Identifiers.{is_name, is_name_byte, is_digit}
use Rattle.obj_write.specs.Strings.{terminated, string_table, name_at}
use Rattle.obj_write.specs.Symbols.{symbol_names}
use Rattle.obj_write.specs.Object.{table_names, part_names, relocation_names, relocated_in, object_section_names}
use Rattle.obj_write.proofs.ReadLemmas.{Stands, stands_drop}
use Rattle.obj_write.proofs.ObjectLemmas.{no_part, relocation_name_at, relocated_within, relocation_names_are}

-- no byte of it ends a string
pub record IsString (most : ℕ) (name : List ℕ) : Type 0 where
  pub short : length name ≤ most
  pub bytes : list_all (λ b. not (eqb b 0)) name ≡ true

not_zero : (b : ℕ) → is_name_byte b ≡ true → not (eqb b 0) ≡ true
unfolding is_name_byte
not_zero zero e = cc
not_zero (suc b) e = let f : eqb (suc b) 0 ≡ false = grind (arith, nat_tests) in ap not f

no_zeros : (name : List ℕ) → list_all is_name_byte name ≡ true → list_all (λ b. not (eqb b 0)) name ≡ true
no_zeros [] e = refl
no_zeros (b ∷ bs) e =
    let h = and_parts (is_name_byte b) (list_all is_name_byte bs) e in
    and_from (not (eqb b 0)) (list_all (λ c. not (eqb c 0)) bs) (not_zero b h.0) (no_zeros bs h.1)

pub name_is : (name : List ℕ) → is_name name ≡ true → IsString 64 name
unfolding is_name
name_is [] e = cc
name_is (b ∷ bs) e =
    let h = and_parts (not (is_digit b) && nat_le (length (b ∷ bs)) 64) (list_all is_name_byte (b ∷ bs)) e in
    let g = and_parts (not (is_digit b)) (nat_le (length (b ∷ bs)) 64) h.0 in
    let few : nat_le (length (b ∷ bs)) 64 ≡ true = g.1 in
    record { short = grind (arith, nat_tests); bytes = no_zeros (b ∷ bs) h.1 }

ends_by : (t : Bool) (bs rest : List ℕ) (i : ℕ) → (not t ≡ true) × (list_all (λ c. not (eqb c 0)) bs ≡ true)
    → (list_all (λ c. not (eqb c 0)) bs ≡ true → position_from (λ c. eqb c 0) (i + 1) (bs ++ 0 ∷ rest) ≡ Some (i + 1 + length bs))
    → cond t (Some i) (position_from (λ c. eqb c 0) (i + 1) (bs ++ 0 ∷ rest)) ≡ Some (i + suc (length bs))
ends_by true bs rest i h further = let bad = h.0 in cc
ends_by false bs rest i h further = further h.1 ∙ ap Some (omega arith)

-- the end of a name that begins here
ends_at : (name rest : List ℕ) (i : ℕ) → list_all (λ b. not (eqb b 0)) name ≡ true → position_from (λ b. eqb b 0) i (name ++ 0 ∷ rest) ≡ Some (i + length name)
ends_at [] rest i e = ap Some (omega arith)
ends_at (b ∷ bs) rest i e = ends_by (eqb b 0) bs rest i (and_parts (not (eqb b 0)) (list_all (λ c. not (eqb c 0)) bs) e) (ends_at bs rest (i + 1))

after_name : (names : List (List ℕ)) (k : ℕ) → k < length names
    → drop (name_at names k) (string_table names) ≡ get_or names k [] ++ 0 ∷ flat_map terminated (drop (k + 1) names)
unfolding name_at string_table
after_name names k lt =
    let before : List ℕ = 0 ∷ flat_map terminated (take k names) in
    let rest : List ℕ = flat_map terminated (drop (k + 1) names) in
    let split : string_table names ≡ before ++ (terminated (get_or names k []) ++ rest)
    = ap (λ l. 0 ∷ flat_map terminated l) (sym (take-append-drop k names))
    ∙ (ap (λ l. 0 ∷ l) (flat_map-append terminated (take k names) (drop k names)) ∙ ap (λ l. before ++ flat_map terminated l) (drop_more names k [] lt)) in
    ap (drop (length before)) split ∙ (drop_at before (terminated (get_or names k []) ++ rest) (length before) refl ∙ append_assoc (get_or names k []) (0 ∷ []) rest)

-- a name of the table is found to end where it does
pub name_ends : (names : List (List ℕ)) (most k : ℕ) → k < length names → All (IsString most) names → end_in (string_table names) (name_at names k) ≡ Some (name_at names k + length (get_or names k []))
name_ends names most k lt all =
    ap (position_from (λ b. eqb b 0) (name_at names k)) (after_name names k lt)
    ∙ ends_at (get_or names k []) (flat_map terminated (drop (k + 1) names)) (name_at names k) (All-get_or (IsString most) names k [] lt all).bytes

-- the empty name at the start
pub no_name_ends : (names : List (List ℕ)) → end_in (string_table names) 0 ≡ Some 0
unfolding string_table
no_name_ends names = refl

-- the content of a header whose bytes stand at its place
pub content_read : (file : List ℕ) (h : Header) (bytes : List ℕ) → h.size ≡ length bytes → Stands file h.offset bytes → content file h ≡ bytes
content_read file h bytes sized s =
    ap (λ n. take n (drop h.offset file)) sized ∙ (ap (take (length bytes)) (stands_drop file h.offset bytes s) ∙ take_at bytes s.rest (length bytes) refl)

-- ---- the names of a unit

pub symbol_strings : (unit : UnitValue) → IsUnit unit → All (IsString 64) (symbol_names unit.symbols)
symbol_strings unit is =
    All-map (IsString 64) (λ (s : SymbolValue). s.name) unit.symbols
    (All-weaker (IsSymbolValue (length unit.sections)) (λ s. IsString 64 s.name) (λ s h. name_is s.name h.named) unit.symbols is.symbols_kept)

part_strings : (unit : UnitValue) → IsUnit unit → All (IsString 69) (part_names unit.sections)
part_strings unit is =
    All-map (IsString 69) (λ (s : SectionValue). s.name) unit.sections
    (All-weaker IsSectionValue (λ s. IsString 69 s.name) (λ s h. let n = name_is s.name h.named in record { short = let l = n.short in omega (arith, l); bytes = n.bytes }) unit.sections is.sections_kept)

table_strings : All (IsString 69) table_names
table_strings =
    let a : IsString 69 (codes ".symtab") = record { short = omega arith; bytes = refl } in
    let b : IsString 69 (codes ".strtab") = record { short = omega arith; bytes = refl } in
    let c : IsString 69 (codes ".shstrtab") = record { short = omega arith; bytes = refl } in
    All-cons (IsString 69) (codes ".symtab") (codes ".strtab" ∷ codes ".shstrtab" ∷ []) a
    (All-cons (IsString 69) (codes ".strtab") (codes ".shstrtab" ∷ []) b (All-cons (IsString 69) (codes ".shstrtab") [] c (All-nil (IsString 69))))

relocation_string : (unit : UnitValue) → IsUnit unit → (i : ℕ) → i < length unit.sections → IsString 69 (relocation_name_at unit.sections i)
relocation_string unit is i lt =
    let h = All-get_or IsSectionValue unit.sections i no_part lt is.sections_kept in
    let n = name_is (get_or unit.sections i no_part).name h.named in
    let l = n.short in
    record { short = omega (arith, l); bytes = n.bytes }

pub section_strings : (unit : UnitValue) → IsUnit unit → All (IsString 69) (object_section_names unit)
unfolding object_section_names
section_strings unit is =
    All-append (IsString 69) (part_names unit.sections) (table_names ++ relocation_names unit) (part_strings unit is)
    (All-append (IsString 69) table_names (relocation_names unit) table_strings
    (All-same (IsString 69) (relocation_names unit) (map (relocation_name_at unit.sections) (relocated_in unit)) (relocation_names_are unit)
    (All-map (IsString 69) (relocation_name_at unit.sections) (relocated_in unit)
    (All-weaker (λ i. i < length unit.sections) (λ i. IsString 69 (relocation_name_at unit.sections i)) (λ i lt. relocation_string unit is i lt) (relocated_in unit) (relocated_within unit.relocations (length unit.sections))))))
