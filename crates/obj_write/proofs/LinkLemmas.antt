-- The links between the sections of a unit's file.
use Rattle.std.proofs.Common.{◌≡◌, ℕ, zero, suc, ◌+◌, ◌%◌, ◌<◌, List, refl, ap, ◌∙◌, arith, length, get_or, Bool, true, false, not, ltb, eqb, ◌&&◌, ◌||◌, Option, Some, None}
use Rattle.std.proofs.lemmas.Bool.Decides.{nat_tests}
use Rattle.std.proofs.lemmas.Bool.{and_left, and_right, eq-eqb, lt-ltb}
use Rattle.elf_objects.specs.declared.fault.ElfFault.{ElfFault}
use Rattle.elf_objects.specs.declared.fault.ElfFault.TheVariants as fault
use Rattle.elf_objects.specs.Passes.{first_below}
use Rattle.std.specs.Bool.{then_some}
use Rattle.std.specs.Option.{option_or}
use Rattle.elf_objects.proofs.PassLemmas.{first_below_found}
use Rattle.elf_objects.specs.declared.section.Header.{Header}
use Rattle.elf_objects.specs.Header.{section_count, name_table}
use Rattle.elf_objects.specs.Section.{header_of, is_loaded_header, is_kind, index_if, is_this, symbol_table, is_bad_symbol_table, is_kept_table, is_bad_kept_table, is_bad_link, link_fault, link_faults, name_table_fault}
use Rattle.asm_line.specs.declared.statement.SectionKind.{SectionKind}
use Rattle.asm_text.specs.Parts.{UnitValue, IsUnit}
use Rattle.obj_write.specs.Symbols as own
use Rattle.obj_write.specs.Relocations.{relocation_table}
use Rattle.obj_write.specs.Object.{section_type, symtab_index, strtab_index, relocated_in, object_of}
use Rattle.obj_write.proofs.ReadLemmas.{header}
use Rattle.obj_write.proofs.FileLemmas.{nothing_below, no_head}
use Rattle.obj_write.proofs.ObjectLemmas.{no_part}
use Rattle.obj_write.proofs.SizeLemmas.{length_relocations, length_symbols}
use Rattle.obj_write.proofs.UnitLemmas.{target_of}
use Rattle.obj_write.proofs.HeaderLemmas.{of_kinds, part_head_read, symbols_read, strings_read, names_read, relocations_head_read, counted_sections, zero_header, part_read, symtab_read, strtab_read, target_within}
use Rattle.obj_write.proofs.FaultLemmas.{every_header, names_at}

-- ---- tests

pub other_index : (a b : ℕ) → a < b → eqb a b ≡ false
other_index a b lt = grind (arith, nat_tests)

above : (a b : ℕ) → b < a → eqb a b ≡ false
above a b lt = grind (arith, nat_tests)

four_false : (a b c d : Bool) (f : ElfFault) → a ≡ false → b ≡ false → c ≡ false → d ≡ false → then_some (a || b || c || d) f ≡ None
four_false a b c d f p q r s = rw (p, q, r, s) refl

four_nots : (a b c d : Bool) → a ≡ true → b ≡ true → c ≡ true → d ≡ true → (not a || not b || not c || not d) ≡ false
four_nots a b c d p q r s = rw (p, q, r, s) refl

three_nots : (a b c : Bool) → a ≡ true → b ≡ true → c ≡ true → (not a || not b || not c) ≡ false
three_nots a b c p q r = rw (p, q, r) refl

-- ---- the table of symbols

tables_before : (unit : UnitValue) → IsUnit unit → (i : ℕ) → i < suc (length unit.sections + 0) → index_if (eqb ((header_of (object_of unit) i).kind) 2) i ≡ None
tables_before unit is zero lt = ap (λ (h : Header). index_if (eqb h.kind 2) 0) (zero_header unit is)
tables_before unit is (suc k) lt =
    ap (λ (h : Header). index_if (eqb h.kind 2) (suc k)) (part_read unit is k (omega arith))
    ∙ of_kinds (λ kind flags. index_if (eqb kind 2) (suc k) ≡ None) refl refl refl (get_or unit.sections k no_part).kind

-- it is the first one
pub first_table : (unit : UnitValue) → IsUnit unit → symbol_table (object_of unit) ≡ Some (suc (length unit.sections + 0))
unfolding symbol_table
first_table unit is =
    let file : List ℕ = object_of unit in
    let i : ℕ = suc (length unit.sections + 0) in
    let n = counted_sections unit is in
    first_below_found (λ k. index_if (eqb ((header_of file k).kind) 2) k) (section_count file) i i (omega (arith, n))
    (nothing_below (λ k. index_if (eqb ((header_of file k).kind) 2) k) i (tables_before unit is))
    (ap (λ (h : Header). index_if (eqb h.kind 2) i) (symtab_read unit is))

-- ---- links

link_by : (file : List ℕ) (i : ℕ) (h : Header) → (eqb i (name_table file) && not (eqb h.kind 3)) ≡ false → (eqb h.kind 2 && is_bad_symbol_table file i h) ≡ false
    → ((eqb h.kind 4 || eqb h.kind 9) && not (ltb h.info (section_count file))) ≡ false → (is_kept_table file h && is_bad_kept_table file h) ≡ false → then_some (is_bad_link file i h) (fault.Link i) ≡ None
link_by file i h a b c d =
    four_false (eqb i (name_table file) && not (eqb h.kind 3)) (eqb h.kind 2 && is_bad_symbol_table file i h) ((eqb h.kind 4 || eqb h.kind 9) && not (ltb h.info (section_count file))) (is_kept_table file h && is_bad_kept_table file h) (fault.Link i) a b c d

other_than_names : (unit : UnitValue) → IsUnit unit → (i : ℕ) (x : Bool) → eqb i (suc (length unit.sections + 2)) ≡ false → (eqb i (name_table (object_of unit)) && x) ≡ false
other_than_names unit is i x other = and_left (eqb i (name_table (object_of unit))) x (ap (eqb i) (names_at unit is) ∙ other)

part_link : (unit : UnitValue) → IsUnit unit → (k : ℕ) → k < length unit.sections → then_some (is_bad_link (object_of unit) (suc k) (part_head_read unit k)) (fault.Link (suc k)) ≡ None
part_link unit is k lt =
    let file : List ℕ = object_of unit in
    let h : Header = part_head_read unit k in
    let K : SectionKind = (get_or unit.sections k no_part).kind in
    link_by file (suc k) h
    (other_than_names unit is (suc k) (not (eqb (section_type K) 3)) (other_index (suc k) (suc (length unit.sections + 2)) (omega arith)))
    (of_kinds (λ kind flags. (eqb kind 2 && is_bad_symbol_table file (suc k) h) ≡ false) refl refl refl K)
    (of_kinds (λ kind flags. ((eqb kind 4 || eqb kind 9) && not (ltb 0 (section_count file))) ≡ false) refl refl refl K)
    (of_kinds (λ kind flags. (eqb kind 4 && is_loaded_header (header_of file 0) && is_bad_kept_table file h) ≡ false) refl refl refl K)

strings_kind : (unit : UnitValue) → IsUnit unit → is_kind (object_of unit) 3 (strtab_index unit) ≡ true
strings_kind unit is =
    let file : List ℕ = object_of unit in
    let n = counted_sections unit is in
    let there : strtab_index unit ≡ suc (length unit.sections + 1) = omega arith in
    let kind : (header_of file (strtab_index unit)).kind ≡ 3 = ap (λ i. (header_of file i).kind) there ∙ ap (λ (h : Header). h.kind) (strtab_read unit is) in
    let within = lt-ltb (strtab_index unit) (section_count file) (omega (arith, n)) in
    rw (within, kind) refl

is_first : (unit : UnitValue) → IsUnit unit → (i : ℕ) → i ≡ suc (length unit.sections + 0) → is_this (symbol_table (object_of unit)) i ≡ true
is_first unit is i e = ap (λ o. is_this o i) (first_table unit is) ∙ eq-eqb i (suc (length unit.sections + 0)) e

symtab_link : (unit : UnitValue) → IsUnit unit → let i : ℕ = suc (length unit.sections + 0) in then_some (is_bad_link (object_of unit) i (symbols_read unit)) (fault.Link i) ≡ None
symtab_link unit is =
    let i : ℕ = suc (length unit.sections + 0) in
    let size : ℕ = length (own.symbol_table_bytes unit.symbols) in
    let n = length_symbols unit.symbols in
    let whole : eqb (size % 16) 0 ≡ true = eq-eqb (size % 16) 0 (omega (arith, n)) in
    link_by (object_of unit) i (symbols_read unit)
    (other_than_names unit is i true (other_index i (suc (length unit.sections + 2)) (omega arith)))
    (four_nots (is_this (symbol_table (object_of unit)) i) (is_kind (object_of unit) 3 (strtab_index unit)) true (eqb (size % 16) 0) (is_first unit is i refl) (strings_kind unit is) refl whole)
    refl refl

relocations_link : (unit : UnitValue) → IsUnit unit → (j : ℕ) → j < length (relocated_in unit) → let i : ℕ = suc (length unit.sections + (3 + j)) in then_some (is_bad_link (object_of unit) i (relocations_head_read unit j)) (fault.Link i) ≡ None
relocations_link unit is j lt =
    let i : ℕ = suc (length unit.sections + (3 + j)) in
    let file : List ℕ = object_of unit in
    let size : ℕ = length (relocation_table unit.relocations (target_of unit j)) in
    let target = target_within unit j lt in
    let n = counted_sections unit is in
    let m = length_relocations unit.relocations (target_of unit j) in
    let within : ltb (target_of unit j + 1) (section_count file) ≡ true = lt-ltb (target_of unit j + 1) (section_count file) (omega (arith, target, n)) in
    let whole : eqb (size % 12) 0 ≡ true = eq-eqb (size % 12) 0 (omega (arith, m)) in
    link_by file i (relocations_head_read unit j)
    (other_than_names unit is i true (above i (suc (length unit.sections + 2)) (omega arith)))
    refl (ap not within)
    (and_right (is_loaded_header (header_of file (target_of unit j + 1))) _
    (three_nots (is_this (symbol_table file) (symtab_index unit)) true (eqb (size % 12) 0) (is_first unit is (symtab_index unit) (omega arith)) refl whole))

names_link : (unit : UnitValue) → IsUnit unit → name_table_fault (object_of unit) ≡ None
unfolding name_table_fault
names_link unit is =
    let file : List ℕ = object_of unit in
    let n = counted_sections unit is in
    let e = names_at unit is in
    let within = lt-ltb (name_table file) (section_count file) (omega (arith, n, e)) in
    ap (λ b. then_some (not b) (fault.Link (name_table file))) within

pub both_none : {A : Type 0} (a b : Option A) → a ≡ None → b ≡ None → option_or a b ≡ None
both_none a b p q = rw p q

pub no_link_faults : (unit : UnitValue) → IsUnit unit → link_faults (object_of unit) ≡ None
unfolding link_faults link_fault
no_link_faults unit is =
    let file : List ℕ = object_of unit in
    let n : ℕ = length unit.sections in
    both_none (first_below (link_fault file) (section_count file)) (name_table_fault file)
    (nothing_below (link_fault file) (section_count file)
    (every_header (λ i h. then_some (is_bad_link file i h) (fault.Link i) ≡ None) unit is
    (link_by file 0 (header no_head) (other_than_names unit is 0 true (other_index 0 (suc (n + 2)) (omega arith))) refl refl refl) (part_link unit is) (symtab_link unit is)
    (link_by file (suc (n + 1)) (strings_read unit) (other_than_names unit is (suc (n + 1)) false (other_index (suc (n + 1)) (suc (n + 2)) (omega arith))) refl refl refl)
    (link_by file (suc (n + 2)) (names_read unit) (and_right (eqb (suc (n + 2)) (name_table file)) false refl) refl refl refl) (relocations_link unit is)))
    (names_link unit is)
