-- The entries of the tables of symbols and relocations of a unit's file, as they are read.
use Rattle.std.proofs.Common.{◌≡◌, ℕ, zero, suc, ◌+◌, ◌*◌, ◌/◌, ◌%◌, ◌<◌, ◌≤◌, ◌^◌, List, [], refl, ap, subst, ◌∙◌, arith, length, take, drop, get_or, length-append, Bool, true, false, not, cond, ltb, eqb, ◌&&◌, ◌||◌, Option, Some, None, is_none, replicate}
use Rattle.std.specs.List.{flat_map}
use Rattle.std.specs.Option.{option_map}
use Rattle.std.proofs.lemmas.List.{length-map, length-take, take-append-drop}
use Rattle.std.proofs.lemmas.List.Concat.{flat_map-append}
use Rattle.std.proofs.lemmas.List.Elements.{All-get_or, All-filter}
use Rattle.std.proofs.lemmas.Bool.{and_left, lt-ltb}
use Rattle.elf_objects.specs.declared.fault.ElfFault.TheVariants as fault
use Rattle.elf_objects.specs.Bytes.{long_at}
use Rattle.elf_objects.specs.Passes.{all_below, first_below}
use Rattle.std.specs.Bool.{then_some}
use Rattle.std.specs.Option.{option_or}
use Rattle.elf_objects.specs.declared.section.Header.{Header}
use Rattle.elf_objects.specs.declared.symbol.Entry.{Entry}
use Rattle.elf_objects.specs.Header.{section_count, header_fault, table_fault}
use Rattle.elf_objects.specs.Section.{header_of, content, is_alignment, is_loaded_header, is_kept_table}
use Rattle.elf_objects.specs.Names.{end_in, name_end}
use Rattle.elf_objects.specs.Symbol.{table_entry, count_in, strings_of, is_bad_common, is_bad_home, symbol_fault, symbols_header, count_of, faults_in, symbol_faults}
use Rattle.elf_objects.specs.Relocation.{relocation_of, entry_fault, relocation_fault, relocation_faults}
use Rattle.elf_objects.specs.Object.{contents_fault, elf_fault_of}
use Rattle.asm_text.specs.declared.unit.AsmRelocation.{AsmRelocation}
use Rattle.asm_text.specs.Parts.{SymbolValue, UnitValue, IsUnit, IsSymbolValue, IsAsmRelocation}
use Rattle.elf_objects.specs.Numbers.{symbol_size}
use Rattle.obj_write.specs.Bytes.{long_bytes}
use Rattle.obj_write.specs.Strings.{terminated, string_table, name_at}
use Rattle.obj_write.specs.Symbols.{info_of, home_index, symbol_entry, symbol_entry_at, symbol_names}
use Rattle.obj_write.specs.Symbols as own
use Rattle.obj_write.specs.Relocations.{relocation_entry, relocation_table, relocations_in}
use Rattle.obj_write.specs.Object.{relocated_in, object_of}
use Rattle.obj_write.proofs.ReadLemmas.{Stands, stands_left, stands_right, stands_part, stands_below, stands_each, length_below, word_read, word_low, half_read, byte_read}
use Rattle.obj_write.proofs.FileLemmas.{nothing_below}
use Rattle.obj_write.proofs.RelocationLemmas.{no_relocation}
use Rattle.obj_write.proofs.SymbolLemmas.{no_symbol, entry_at, entries_below}
use Rattle.obj_write.proofs.ObjectLemmas.{no_part}
use Rattle.obj_write.proofs.SizeLemmas.{length_relocations, length_symbols, length_symbol_at, entries_length}
use Rattle.obj_write.proofs.NameLemmas.{name_ends, content_read, symbol_strings}
use Rattle.obj_write.proofs.UnitLemmas.{target_of, symbol_names_few}
use Rattle.obj_write.proofs.HeaderLemmas.{of_kinds, part_head_read, symbols_read, strings_read, relocations_head_read, symbols_stand, strings_stand, relocations_stand, unit_laid, counted_sections, symtab_read, strtab_read}
use Rattle.obj_write.proofs.FaultLemmas.{every_header, no_section_faults, no_compressed_faults, no_rel_faults, no_name_faults}
use Rattle.obj_write.proofs.LinkLemmas.{first_table, no_link_faults, both_none, other_index}

-- ---- the table of symbols

pub symbols_header_is : (unit : UnitValue) → IsUnit unit → symbols_header (object_of unit) ≡ Some (symbols_read unit)
unfolding symbols_header
symbols_header_is unit is = ap (option_map (header_of (object_of unit))) (first_table unit is) ∙ ap Some (symtab_read unit is)

pub symbol_count : (unit : UnitValue) → count_in (symbols_read unit) ≡ suc (length unit.symbols)
symbol_count unit = let n = length_symbols unit.symbols in omega (arith, n)

pub strings_header : (unit : UnitValue) → IsUnit unit → strings_of (object_of unit) (symbols_read unit) ≡ strings_read unit
strings_header unit is =
    let there : length unit.sections + 2 ≡ suc (length unit.sections + 1) = omega arith in
    ap (header_of (object_of unit)) there ∙ strtab_read unit is

pub strings_content : (unit : UnitValue) → IsUnit unit → content (object_of unit) (strings_of (object_of unit) (symbols_read unit)) ≡ string_table (symbol_names unit.symbols)
strings_content unit is =
    ap (content (object_of unit)) (strings_header unit is) ∙ content_read (object_of unit) (strings_read unit) (string_table (symbol_names unit.symbols)) refl (strings_stand unit is)

-- ---- an entry of it

entry_stands : (file : List ℕ) (at : ℕ) (symbols : List SymbolValue) (k : ℕ) → k < length symbols → Stands file at (own.symbol_table_bytes symbols) → Stands file (at + 16 * suc k) (entry_at symbols k)
entry_stands file at symbols k lt s =
    let f : ℕ → List ℕ = entry_at symbols in
    let r = stands_right file at (at + 16) (replicate symbol_size 0) (all_below f (length symbols)) refl (subst (Stands file at) (entries_below symbols) s) in
    let n = length_below f 16 k (λ j _. length_symbol_at symbols j) in
    let e : at + 16 + length (all_below f k) ≡ at + 16 * suc k = omega (arith, n) in
    subst (λ (m : ℕ). Stands file m (entry_at symbols k)) e (stands_below file (at + 16) f (length symbols) k lt r)

-- the fields of an entry that are looked at
pub record IsEntry (name : ℕ) (s : SymbolValue) (e : Entry) : Type 0 where
  pub name_is : e.name ≡ name
  pub value : e.value ≡ s.value % 2 ^ 32
  pub size : e.size ≡ 0
  pub binding : e.binding ≡ info_of s.global / 16
  pub section : e.section ≡ home_index s.home

pub entry_read : (file : List ℕ) (table : Header) (index name : ℕ) (s : SymbolValue) → name < 2 ^ 32 → home_index s.home < 2 ^ 16 → Stands file (table.offset + 16 * index) (symbol_entry name s) → IsEntry name s (table_entry file table index)
unfolding table_entry symbol_entry
entry_read file table index name s small home stands =
    let at : ℕ = table.offset + 16 * index in
    let part : (n m : ℕ) → ltb 16 n ≡ false → Stands file (at + n) (take m (drop n (symbol_entry name s))) = λ n m within. stands_part file (symbol_entry name s) at n m within stands in
    record {
      name_is = word_read file at name small (stands_left file at (long_bytes name) (drop 4 (symbol_entry name s)) stands);
      value = word_low file (at + 4) s.value (part 4 4 refl);
      size = word_read file (at + 8) 0 (omega arith) (part 8 4 refl);
      binding = ap (λ n. n / 16) (byte_read file (at + 12) (info_of s.global) [] (part 12 1 refl));
      section = half_read file (at + 14) (home_index s.home) home (part 14 2 refl);
    }

pub home_few : (sections : ℕ) (o : Option ℕ) → sections ≤ 256 → ((k : ℕ) → o ≡ Some k → k < sections) → home_index o ≤ sections
home_few sections None few within = omega arith
home_few sections (Some k) few within = let lt = within k refl in omega (arith, lt)

bindings : (g : Bool) → ltb 2 (info_of g / 16) ≡ false
bindings true = refl
bindings false = refl

four_false : (a b c d : Bool) → a ≡ false → b ≡ false → c ≡ false → d ≡ false → (a || b || c || d) ≡ false
four_false a b c d p q r s = rw (p, q, r, s) refl

pub symbol_name_few : (unit : UnitValue) (k : ℕ) → name_at (symbol_names unit.symbols) k ≤ length (string_table (symbol_names unit.symbols))
unfolding name_at string_table
symbol_name_few unit k =
    let names : List (List ℕ) = symbol_names unit.symbols in
    let e = ap (λ l. length (flat_map terminated l)) (take-append-drop k names) in
    let a = ap length (flat_map-append terminated (take k names) (drop k names)) in
    let b = length-append (flat_map terminated (take k names)) (flat_map terminated (drop k names)) in
    omega (arith, e, a, b)

-- the entry of a symbol of the unit
pub entry_given : (unit : UnitValue) → IsUnit unit → (k : ℕ) → k < length unit.symbols
    → IsEntry (name_at (symbol_names unit.symbols) k) (get_or unit.symbols k no_symbol) (table_entry (object_of unit) (symbols_read unit) (suc k))
unfolding symbol_entry_at
entry_given unit is k lt =
    let s : SymbolValue = get_or unit.symbols k no_symbol in
    let h = All-get_or (IsSymbolValue (length unit.sections)) unit.symbols k no_symbol lt is.symbols_kept in
    let home = home_few (length unit.sections) s.home is.few_sections h.home in
    let few = is.few_sections in
    let name = symbol_name_few unit k in
    let strings = symbol_names_few unit is in
    entry_read (object_of unit) (symbols_read unit) (suc k) (name_at (symbol_names unit.symbols) k) s (omega (arith, name, strings)) (omega (arith, home, few))
    (entry_stands (object_of unit) (symbols_read unit).offset unit.symbols k lt (symbols_stand unit is))

symbol_by : (unit : UnitValue) → IsUnit unit → (k : ℕ) → k < length unit.symbols → symbol_fault (object_of unit) (symbols_read unit) (suc k) ≡ None
unfolding symbol_fault name_end
symbol_by unit is k lt =
    let file : List ℕ = object_of unit in
    let table : Header = symbols_read unit in
    let names : List (List ℕ) = symbol_names unit.symbols in
    let s : SymbolValue = get_or unit.symbols k no_symbol in
    let h = All-get_or (IsSymbolValue (length unit.sections)) unit.symbols k no_symbol lt is.symbols_kept in
    let home = home_few (length unit.sections) s.home is.few_sections h.home in
    let few = is.few_sections in
    let e = entry_given unit is k lt in
    let counted : length names ≡ length unit.symbols = length-map unit.symbols (λ (t : SymbolValue). t.name) in
    let entry : Entry = table_entry file table (suc k) in
    let ends : is_none (end_in (content file (strings_of file table)) entry.name) ≡ false
    = ap (λ l. is_none (end_in l entry.name)) (strings_content unit is) ∙ (ap (λ n. is_none (end_in (string_table names) n)) e.name_is
    ∙ ap (λ (o : Option ℕ). is_none o) (name_ends names 64 k (omega (arith, counted)) (symbol_strings unit is))) in
    let binding : ltb 2 entry.binding ≡ false = ap (ltb 2) e.binding ∙ bindings s.global in
    let count = counted_sections unit is in
    let section = e.section in
    let within : ltb entry.section (section_count file) ≡ true = lt-ltb entry.section (section_count file) (omega (arith, count, home, section)) in
    let homed : is_bad_home file entry ≡ false = ap (λ b. not b && not (eqb entry.section 0xFFF1) && not (eqb entry.section 0xFFF2)) within in
    let common : is_bad_common entry ≡ false = and_left (eqb entry.section 0xFFF2) (eqb entry.binding 0 || not (is_alignment entry.value)) (other_index entry.section 0xFFF2 (omega (arith, home, section, few))) in
    ap (λ b. then_some b (fault.Symbol (suc k)))
    (four_false (is_none (end_in (content file (strings_of file table)) entry.name)) (ltb 2 entry.binding) (is_bad_home file entry) (is_bad_common entry) ends binding homed common)

symbol_each : (unit : UnitValue) → IsUnit unit → (i : ℕ) → i < count_in (symbols_read unit) → symbol_fault (object_of unit) (symbols_read unit) i ≡ None
unfolding symbol_fault
symbol_each unit is zero lt = refl
symbol_each unit is (suc k) lt = let n = symbol_count unit in symbol_by unit is k (omega (arith, n))

pub no_symbol_faults : (unit : UnitValue) → IsUnit unit → symbol_faults (object_of unit) ≡ None
unfolding symbol_faults
no_symbol_faults unit is =
    ap (faults_in (object_of unit)) (symbols_header_is unit is)
    ∙ nothing_below (symbol_fault (object_of unit) (symbols_read unit)) (count_in (symbols_read unit)) (symbol_each unit is)

-- ---- relocations

pub relocation_stands : (file : List ℕ) (at : ℕ) (rs : List AsmRelocation) (section e : ℕ) → e < length (relocations_in rs section) → Stands file at (relocation_table rs section)
    → Stands file (at + 12 * e) (relocation_entry (get_or (relocations_in rs section) e no_relocation))
unfolding relocation_table
relocation_stands file at rs section e lt s =
    let list : List AsmRelocation = relocations_in rs section in
    let n = entries_length (take e list) in
    let m = length-take e list in
    let at_entry : at + length (flat_map relocation_entry (take e list)) ≡ at + 12 * e = omega (arith, n, m) in
    subst (λ (k : ℕ). Stands file k (relocation_entry (get_or list e no_relocation))) at_entry (stands_each file at relocation_entry list e no_relocation lt s)

pub info_read : (file : List ℕ) (at : ℕ) (r : AsmRelocation) → r.symbol < 1048576 → Stands file at (relocation_entry r) → long_at file (at + 4) ≡ (r.symbol + 1) * 256 + 5
unfolding relocation_entry
info_read file at r few s = word_read file (at + 4) ((r.symbol + 1) * 256 + 5) (omega arith) (stands_part file (relocation_entry r) at 4 4 refl s)

relocation_entry_by : (unit : UnitValue) → IsUnit unit → (j i symbols : ℕ) → j < length (relocated_in unit) → symbols ≡ suc (length unit.symbols)
    → (e : ℕ) → e < (relocations_head_read unit j).size / 12 → entry_fault (object_of unit) symbols i (relocations_head_read unit j) e ≡ None
unfolding entry_fault relocation_of
relocation_entry_by unit is j i symbols lt count e within =
    let file : List ℕ = object_of unit in
    let target : ℕ = target_of unit j in
    let list : List AsmRelocation = relocations_in unit.relocations target in
    let at : ℕ = (relocations_head_read unit j).offset + 12 * e in
    let n = length_relocations unit.relocations target in
    let inside : e < length list = omega (arith, n) in
    let r : AsmRelocation = get_or list e no_relocation in
    let kept = All-get_or (IsAsmRelocation (length unit.sections) (length unit.symbols)) list e no_relocation inside
    (All-filter (λ (q : AsmRelocation). eqb q.section target) (IsAsmRelocation (length unit.sections) (length unit.symbols)) unit.relocations is.relocations_kept) in
    let symbol = kept.symbol in
    let few = is.few_symbols in
    let info = info_read file at r (omega (arith, symbol, few)) (relocation_stands file (relocations_head_read unit j).offset unit.relocations target e inside (relocations_stand unit is j lt)) in
    let there : long_at file (at + 4) / 256 < symbols = omega (arith, info, symbol, count) in
    ap (λ b. then_some (not b) (fault.Relocation i e)) (lt-ltb (long_at file (at + 4) / 256) symbols there)

kept_by : (file : List ℕ) (symbols i : ℕ) (h : Header) → ((e : ℕ) → e < h.size / 12 → entry_fault file symbols i h e ≡ None) → cond (is_kept_table file h) (first_below (entry_fault file symbols i h) (h.size / 12)) None ≡ None
kept_by file symbols i h each = by (is_kept_table file h) (nothing_below (entry_fault file symbols i h) (h.size / 12) each) where
  by : (b : Bool) → first_below (entry_fault file symbols i h) (h.size / 12) ≡ None → cond b (first_below (entry_fault file symbols i h) (h.size / 12)) None ≡ None
  by true none = none
  by false none = refl

pub count_is : (unit : UnitValue) → IsUnit unit → count_of (symbols_header (object_of unit)) ≡ suc (length unit.symbols)
count_is unit is = ap count_of (symbols_header_is unit is) ∙ symbol_count unit

pub no_relocation_faults : (unit : UnitValue) → IsUnit unit → relocation_faults (object_of unit) ≡ None
unfolding relocation_faults relocation_fault
no_relocation_faults unit is =
    let file : List ℕ = object_of unit in
    let symbols : ℕ = count_of (symbols_header file) in
    nothing_below (relocation_fault file symbols) (section_count file)
    (every_header (λ i h. cond (is_kept_table file h) (first_below (entry_fault file symbols i h) (h.size / 12)) None ≡ None) unit is refl
    (λ k lt.
    of_kinds (λ kind flags. cond (eqb kind 4 && is_loaded_header (header_of file 0)) (first_below (entry_fault file symbols (suc k) (part_head_read unit k)) ((part_head_read unit k).size / 12)) None ≡ None) refl refl refl (get_or unit.sections k no_part).kind) refl refl refl
    (λ j lt. let i : ℕ = suc (length unit.sections + (3 + j)) in kept_by file symbols i (relocations_head_read unit j) (relocation_entry_by unit is j i symbols lt (count_is unit is))))

-- ---- none at all

no_contents_fault : (unit : UnitValue) → IsUnit unit → contents_fault (object_of unit) ≡ None
unfolding contents_fault
no_contents_fault unit is =
    rw (no_section_faults unit is, no_link_faults unit is, no_name_faults unit is, no_compressed_faults unit is, no_rel_faults unit is, no_symbol_faults unit is, no_relocation_faults unit is) refl

-- the object reader refuses no object that is written
pub no_fault : (unit : UnitValue) → IsUnit unit → elf_fault_of (object_of unit) ≡ None
unfolding elf_fault_of
no_fault unit is =
    let l = unit_laid unit is in
    both_none (header_fault (object_of unit)) (cond (eqb (section_count (object_of unit)) 0) None (option_or (table_fault (object_of unit)) (contents_fault (object_of unit)))) l.header_none
    (by (eqb (section_count (object_of unit)) 0) (both_none (table_fault (object_of unit)) (contents_fault (object_of unit)) l.table_none (no_contents_fault unit is))) where
      by : (b : Bool) → option_or (table_fault (object_of unit)) (contents_fault (object_of unit)) ≡ None → cond b None (option_or (table_fault (object_of unit)) (contents_fault (object_of unit))) ≡ None
      by true e = refl
      by false e = e
