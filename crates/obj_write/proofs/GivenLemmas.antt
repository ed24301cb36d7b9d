-- The symbols and relocations that are read of a unit's file are the unit's.
use Rattle.std.proofs.Common.{◌≡◌, ℕ, zero, suc, ◌+◌, ◌*◌, ◌-◌, ◌/◌, ◌%◌, ◌<◌, ◌≤◌, ◌^◌, List, [], refl, ap, sym, subst, ◌∙◌, arith, add-one, length, drop, get_or, Bool, true, false, cond, eqb, ◌&&◌, Option, Some, None}
use Rattle.std.specs.Prelude.{slice_get, pos, ℤ}
use Rattle.std.specs.Int.{cast_signed, w32}
use Rattle.std.specs.List.{flat_map, enumerate_from}
use Rattle.std.proofs.lemmas.Bool.Decides.{nat_tests}
use Rattle.std.proofs.lemmas.List.{length-map, get_or-map}
use Rattle.std.proofs.lemmas.List.Elements.{All-get_or, All-filter}
use Rattle.std.proofs.lemmas.Option.{slice_get_within, get_or_from_slice_get}
use Rattle.elf_objects.specs.Bytes.{long_at}
use Rattle.elf_objects.specs.Passes.{each_below, all_below}
use Rattle.elf_objects.proofs.PassLemmas.{length_each_below, at_each}
use Rattle.elf_objects.specs.declared.section.Header.{Header}
use Rattle.elf_objects.specs.declared.object.SectionHead.{SectionHead}
use Rattle.elf_objects.specs.declared.object.Relocation.{Relocation}
use Rattle.elf_objects.specs.Header.{section_count}
use Rattle.elf_objects.specs.Section.{header_of, is_loaded, is_loaded_header, is_kept_table}
use Rattle.elf_objects.specs.Names.{section_of, sections_of}
use Rattle.elf_objects.specs.Symbol.{table_entry, strings_of, binding_of, home_of, symbol_of, symbols_in, symbols_of}
use Rattle.elf_objects.specs.Relocation.{relocation_of, relocations_at, relocations_of}
use Rattle.elf_objects.specs.Object.{ObjectValue, IsObject}
use Rattle.asm_text.specs.declared.unit.AsmRelocation.{AsmRelocation}
use Rattle.asm_text.specs.Parts.{SectionValue, SymbolValue, UnitValue, IsUnit, IsSymbolValue, IsAsmRelocation}
use Rattle.obj_write.specs.Bytes.{long_bytes}
use Rattle.obj_write.specs.Strings.{string_table}
use Rattle.obj_write.specs.Symbols.{info_of, home_index, symbol_names}
use Rattle.obj_write.specs.Relocations.{relocation_entry, relocations_in}
use Rattle.obj_write.specs.Object.{relocated_in, object_of}
use Rattle.obj_write.specs.Reader.{IsPartRead, IsSymbolOf, binding_read, home_read, relocation_read, table_read, IsObjectOf}
use Rattle.obj_write.proofs.PassLemmas.{each_below_same, each_numbered, all_numbered}
use Rattle.obj_write.proofs.ReadLemmas.{Stands, stands_left, stands_part, word_read, word_low, header}
use Rattle.obj_write.proofs.FileLemmas.{no_head}
use Rattle.obj_write.proofs.SymbolLemmas.{no_symbol}
use Rattle.obj_write.proofs.RelocationLemmas.{no_relocation}
use Rattle.obj_write.proofs.ObjectLemmas.{no_part}
use Rattle.obj_write.proofs.SizeLemmas.{length_relocations, at_all}
use Rattle.obj_write.proofs.NameLemmas.{symbol_strings}
use Rattle.obj_write.proofs.UnitLemmas.{target_of}
use Rattle.obj_write.proofs.HeaderLemmas.{of_kinds, symbols_read, relocations_head_read, strings_stand, relocations_stand, counted_sections, zero_header, part_read, symtab_read, strtab_read, shstrtab_read, relocations_read, target_within}
use Rattle.obj_write.proofs.EntryLemmas.{symbols_header_is, symbol_count, strings_header, strings_content, entry_given, home_few, relocation_stands, info_read}
use Rattle.obj_write.proofs.ReaderLemmas.{name_range, part_given}

-- ---- symbols

bindings : (g : Bool) → binding_of (info_of g / 16) ≡ binding_read g
bindings true = refl
bindings false = refl

homes : (o : Option ℕ) → home_index o ≤ 256 → home_of (home_index o) ≡ home_read o
homes None few = refl
homes (Some k) few =
    let a : eqb (k + 1) 0 ≡ false = grind (arith, nat_tests) in
    let b : eqb (k + 1) 0xFFF1 ≡ false = grind (arith, nat_tests) in
    let c : eqb (k + 1) 0xFFF2 ≡ false = grind (arith, nat_tests) in
    rw (a, b, c) refl

symbol_given : (unit : UnitValue) → IsUnit unit → (k : ℕ) → k < length unit.symbols → IsSymbolOf (object_of unit) (get_or unit.symbols k no_symbol) (symbol_of (object_of unit) (symbols_read unit) (suc k))
unfolding symbol_of
symbol_given unit is k lt =
    let file : List ℕ = object_of unit in
    let table : Header = symbols_read unit in
    let s : SymbolValue = get_or unit.symbols k no_symbol in
    let e = entry_given unit is k lt in
    let h = All-get_or (IsSymbolValue (length unit.sections)) unit.symbols k no_symbol lt is.symbols_kept in
    let home = home_few (length unit.sections) s.home is.few_sections h.home in
    let few = is.few_sections in
    let counted : length (symbol_names unit.symbols) ≡ length unit.symbols = length-map unit.symbols (λ (t : SymbolValue). t.name) in
    let stands : Stands file ((strings_of file table).offset) (string_table (symbol_names unit.symbols))
    = subst (λ (x : Header). Stands file x.offset (string_table (symbol_names unit.symbols))) (sym (strings_header unit is)) (strings_stand unit is) in
    record {
      name = name_range file (strings_of file table) (symbol_names unit.symbols) 64 k ((table_entry file table (suc k)).name) (strings_content unit is) stands e.name_is (omega (arith, counted)) (symbol_strings unit is) ∙ get_or-map (λ (t : SymbolValue). t.name) unit.symbols k no_symbol [] lt;
      value = e.value;
      size = e.size;
      binding = ap binding_of e.binding ∙ bindings s.global;
      home = ap home_of e.section ∙ homes s.home (omega (arith, home, few));
    }

symbols_given : (unit : UnitValue) → IsUnit unit → symbols_of (object_of unit) ≡ each_below (symbol_of (object_of unit) (symbols_read unit)) (length unit.symbols + 1)
unfolding symbols_of
symbols_given unit is =
    ap (symbols_in (object_of unit)) (symbols_header_is unit is)
    ∙ ap (each_below (symbol_of (object_of unit) (symbols_read unit))) (symbol_count unit ∙ sym (add-one (length unit.symbols)))

-- ---- relocations

relocation_same : (a b c d e f a' b' c' d' e' f' : ℕ) (g g' : ℤ) → a ≡ a' → b ≡ b' → c ≡ c' → d ≡ d' → e ≡ e' → f ≡ f' → g ≡ g'
    → let x : Relocation = record { table = a; entry = b; target = c; offset = d; symbol = e; kind = f; addend = g } in
    let y : Relocation = record { table = a'; entry = b'; target = c'; offset = d'; symbol = e'; kind = f'; addend = g' } in x ≡ y
relocation_same a b c d e f a' b' c' d' e' f' g g' p₁ p₂ p₃ p₄ p₅ p₆ p₇ = rw (p₁, p₂, p₃, p₄, p₅, p₆, p₇) refl

offset_read : (file : List ℕ) (at : ℕ) (r : AsmRelocation) → Stands file at (relocation_entry r) → long_at file at ≡ r.offset % 2 ^ 32
unfolding relocation_entry
offset_read file at r s = word_low file at r.offset (stands_left file at (long_bytes r.offset) (drop 4 (relocation_entry r)) s)

addend_read : (file : List ℕ) (at : ℕ) (r : AsmRelocation) → Stands file at (relocation_entry r) → long_at file (at + 8) ≡ 0
unfolding relocation_entry
addend_read file at r s = word_read file (at + 8) 0 (omega arith) (stands_part file (relocation_entry r) at 8 4 refl s)

relocation_given : (unit : UnitValue) → IsUnit unit → (j : ℕ) → j < length (relocated_in unit) → (e : ℕ) → e < length (relocations_in unit.relocations (target_of unit j))
    → relocation_of (object_of unit) (suc (length unit.sections + (3 + j))) (relocations_head_read unit j) e
    ≡ relocation_read (length unit.sections + 4 + j) (target_of unit j) e (get_or (relocations_in unit.relocations (target_of unit j)) e no_relocation)
unfolding relocation_of
relocation_given unit is j lt e inside =
    let file : List ℕ = object_of unit in
    let target : ℕ = target_of unit j in
    let list : List AsmRelocation = relocations_in unit.relocations target in
    let at : ℕ = (relocations_head_read unit j).offset + 12 * e in
    let r : AsmRelocation = get_or list e no_relocation in
    let kept = All-get_or (IsAsmRelocation (length unit.sections) (length unit.symbols)) list e no_relocation inside
    (All-filter (λ (q : AsmRelocation). eqb q.section target) (IsAsmRelocation (length unit.sections) (length unit.symbols)) unit.relocations is.relocations_kept) in
    let symbol = kept.symbol in
    let few = is.few_symbols in
    let stands = relocation_stands file (relocations_head_read unit j).offset unit.relocations target e inside (relocations_stand unit is j lt) in
    let info = info_read file at r (omega (arith, symbol, few)) stands in
    relocation_same _ _ _ _ _ _ (length unit.sections + 4 + j) e (target + 1) (r.offset % 2 ^ 32) (r.symbol + 1) 5 _ (pos 0)
    (omega arith) refl refl (offset_read file at r stands) (omega (arith, info)) (omega (arith, info)) (ap (cast_signed w32) (addend_read file at r stands))

target_loaded : (unit : UnitValue) → IsUnit unit → (j : ℕ) → j < length (relocated_in unit) → is_loaded_header (header_of (object_of unit) (target_of unit j + 1)) ≡ true
target_loaded unit is j lt =
    ap (λ i. is_loaded_header (header_of (object_of unit) i)) (add-one (target_of unit j))
    ∙ (ap is_loaded_header (part_read unit is (target_of unit j) (target_within unit j lt)) ∙ of_kinds (λ kind flags. is_loaded kind flags ≡ true) refl refl refl (get_or unit.sections (target_of unit j) no_part).kind)

table_given : (unit : UnitValue) → IsUnit unit → (j : ℕ) → j < length (relocated_in unit) → relocations_at (object_of unit) (suc (length unit.sections + (3 + j))) ≡ table_read unit j (target_of unit j)
unfolding relocations_at
table_given unit is j lt =
    let file : List ℕ = object_of unit in
    let i : ℕ = suc (length unit.sections + (3 + j)) in
    let h : Header = relocations_head_read unit j in
    let target : ℕ = target_of unit j in
    let list : List AsmRelocation = relocations_in unit.relocations target in
    let read : ℕ → AsmRelocation → Relocation = relocation_read (length unit.sections + 4 + j) target in
    let n = length_relocations unit.relocations target in
    let count : h.size / 12 ≡ length list = omega (arith, n) in
    ap (λ (x : Header). cond (is_kept_table file x) (each_below (relocation_of file i x) (x.size / 12)) []) (relocations_read unit is j lt)
    ∙ (ap (λ b. cond b (each_below (relocation_of file i h) (h.size / 12)) []) (target_loaded unit is j lt)
    ∙ (ap (each_below (relocation_of file i h)) count
    ∙ (each_below_same (relocation_of file i h) (λ e. read e (get_or list e no_relocation)) (length list) (relocation_given unit is j lt)
    ∙ sym (each_numbered read list no_relocation))))

none_at : (file : List ℕ) (i : ℕ) (h : Header) → header_of file i ≡ h → is_kept_table file h ≡ false → relocations_at file i ≡ []
unfolding relocations_at
none_at file i h e other =
    ap (λ (x : Header). cond (is_kept_table file x) (each_below (relocation_of file i x) (x.size / 12)) []) e
    ∙ ap (λ b. cond b (each_below (relocation_of file i h) (h.size / 12)) []) other

none_before : (unit : UnitValue) → IsUnit unit → (i : ℕ) → i < length unit.sections + 4 → relocations_at (object_of unit) i ≡ []
none_before unit is zero lt = none_at (object_of unit) 0 (header no_head) (zero_header unit is) refl
none_before unit is (suc k) lt =
    at_all (λ i. i < length unit.sections + 3 → relocations_at (object_of unit) (suc i) ≡ []) unit
    (λ i l _. none_at (object_of unit) (suc i) _ (part_read unit is i l) (of_kinds (λ kind flags. (eqb kind 4 && is_loaded_header (header_of (object_of unit) 0)) ≡ false) refl refl refl (get_or unit.sections i no_part).kind))
    (λ _. none_at (object_of unit) (suc (length unit.sections + 0)) _ (symtab_read unit is) refl)
    (λ _. none_at (object_of unit) (suc (length unit.sections + 1)) _ (strtab_read unit is) refl)
    (λ _. none_at (object_of unit) (suc (length unit.sections + 2)) _ (shstrtab_read unit is) refl)
    (λ j l less. absurd (omega arith))
    k (omega arith) (omega arith)

nothing_before : {A : Type 0} (f : ℕ → List A) (n : ℕ) → ((i : ℕ) → i < n → f i ≡ []) → all_below f n ≡ []
unfolding all_below
nothing_before f zero none = refl
nothing_before f (suc n) none = rw (nothing_before f n (λ i lt. none i (omega arith)), none n (omega arith)) refl

-- where the first indexes give nothing
shifted : {A : Type 0} (f g : ℕ → List A) (a n : ℕ) → ((i : ℕ) → i < a → f i ≡ []) → ((j : ℕ) → j < n → f (a + j) ≡ g j) → all_below f (a + n) ≡ all_below g n
unfolding all_below
shifted f g a zero none same = let e : a + 0 ≡ a = omega arith in rw e (nothing_before f a none)
shifted f g a (suc n) none same =
    let e : a + suc n ≡ suc (a + n) = omega arith in
    rw e (rw (shifted f g a n none (λ j lt. same j (omega arith)), same n (omega arith)) refl)

relocations_given : (unit : UnitValue) → IsUnit unit → relocations_of (object_of unit) ≡ flat_map (λ (p : ℕ × ℕ). table_read unit p.0 p.1) (enumerate_from 0 (relocated_in unit))
unfolding relocations_of
relocations_given unit is =
    let file : List ℕ = object_of unit in
    let n : ℕ = length unit.sections in
    let c = counted_sections unit is in
    let count : section_count file ≡ n + 4 + length (relocated_in unit) = omega (arith, c) in
    ap (all_below (relocations_at file)) count
    ∙ (shifted (relocations_at file) (λ j. table_read unit j (target_of unit j)) (n + 4) (length (relocated_in unit)) (none_before unit is)
    (λ j lt. let e : n + 4 + j ≡ suc (n + (3 + j)) = omega arith in ap (relocations_at file) e ∙ table_given unit is j lt)
    ∙ sym (all_numbered (table_read unit) (relocated_in unit) 0))

-- ---- what is not loaded

not_loaded : (file : List ℕ) (i : ℕ) (h : Header) → header_of file i ≡ h → is_loaded_header h ≡ false → is_loaded ((section_of file i).kind) ((section_of file i).flags) ≡ false
unfolding section_of
not_loaded file i h e flat = ap is_loaded_header e ∙ flat

tables_flat : (unit : UnitValue) → IsUnit unit → (k : ℕ) → k < length unit.sections + (3 + length (relocated_in unit)) → length unit.sections ≤ k → is_loaded ((section_of (object_of unit) (suc k)).kind) ((section_of (object_of unit) (suc k)).flags) ≡ false
tables_flat unit is =
    at_all (λ k. length unit.sections ≤ k → is_loaded ((section_of (object_of unit) (suc k)).kind) ((section_of (object_of unit) (suc k)).flags) ≡ false) unit
    (λ k l le. absurd (omega arith))
    (λ _. not_loaded (object_of unit) (suc (length unit.sections + 0)) _ (symtab_read unit is) refl)
    (λ _. not_loaded (object_of unit) (suc (length unit.sections + 1)) _ (strtab_read unit is) refl)
    (λ _. not_loaded (object_of unit) (suc (length unit.sections + 2)) _ (shstrtab_read unit is) refl)
    (λ j l _. not_loaded (object_of unit) (suc (length unit.sections + (3 + j))) _ (relocations_read unit is j l) refl)

-- ---- the object

given_at : {A : Type 0} (list : List A) (f : ℕ → A) (n i : ℕ) (x : A) → list ≡ each_below f n → slice_get list i ≡ Some x → (i < n) × (f i ≡ x)
given_at list f n i x all there =
    let within = slice_get_within list i x there in
    let m : length list ≡ n = ap length all ∙ length_each_below f n in
    let lt : i < n = omega (arith, within, m) in
    (lt, sym (at_each f n i x lt) ∙ (sym (ap (λ l. get_or l i x) all) ∙ get_or_from_slice_get list i x x there))

sections_given : (unit : UnitValue) → IsUnit unit → sections_of (object_of unit) ≡ each_below (section_of (object_of unit)) (length unit.sections + 4 + length (relocated_in unit))
unfolding sections_of
sections_given unit is = let c = counted_sections unit is in ap (each_below (section_of (object_of unit))) (omega (arith, c))

-- what is read of the file is the unit's object
pub object_given : (unit : UnitValue) → IsUnit unit → (object : ObjectValue) → object.file ≡ object_of unit → IsObject object → IsObjectOf unit object
object_given unit is object same read =
    let file : List ℕ = object_of unit in
    let n : ℕ = length unit.sections + 4 + length (relocated_in unit) in
    let sections : object.sections ≡ each_below (section_of file) n = read.sections ∙ (ap sections_of same ∙ sections_given unit is) in
    let symbols : object.symbols ≡ each_below (symbol_of file (symbols_read unit)) (length unit.symbols + 1) = read.symbols ∙ (ap symbols_of same ∙ symbols_given unit is) in
    record {
      section_count = ap length sections ∙ length_each_below (section_of file) n;
      sections = λ k s head there found.
          let lt = slice_get_within unit.sections k s there in
          let at = given_at object.sections (section_of file) n (k + 1) head sections found in
          let what : get_or unit.sections k no_part ≡ s = get_or_from_slice_get unit.sections k s no_part there in
          let place : section_of file (suc k) ≡ head = ap (section_of file) (sym (add-one k)) ∙ at.1 in
          subst (λ (l : List ℕ). IsPartRead l s head) (sym same) (subst (λ (x : SectionValue). IsPartRead file x head) what (subst (IsPartRead file (get_or unit.sections k no_part)) place (part_given unit is k lt)));
      null = λ head found.
          let at = given_at object.sections (section_of file) n 0 head sections found in
          ap (λ (h : SectionHead). is_loaded h.kind h.flags) (sym at.1) ∙ not_loaded file 0 (header no_head) (zero_header unit is) refl;
      tables = λ k head after found.
          let at = given_at object.sections (section_of file) n k head sections found in
          let e : suc (k - 1) ≡ k = omega arith in
          let lt = at.0 in
          ap (λ (h : SectionHead). is_loaded h.kind h.flags) (sym at.1)
          ∙ (ap (λ i. is_loaded ((section_of file i).kind) ((section_of file i).flags)) (sym e) ∙ tables_flat unit is (k - 1) (omega (arith, lt)) (omega arith));
      symbol_count = ap length symbols ∙ length_each_below (symbol_of file (symbols_read unit)) (length unit.symbols + 1);
      symbols = λ k s symbol there found.
          let lt = slice_get_within unit.symbols k s there in
          let at = given_at object.symbols (symbol_of file (symbols_read unit)) (length unit.symbols + 1) (k + 1) symbol symbols found in
          let what : get_or unit.symbols k no_symbol ≡ s = get_or_from_slice_get unit.symbols k s no_symbol there in
          let place : symbol_of file (symbols_read unit) (suc k) ≡ symbol = ap (symbol_of file (symbols_read unit)) (sym (add-one k)) ∙ at.1 in
          subst (λ (l : List ℕ). IsSymbolOf l s symbol) (sym same) (subst (λ (x : SymbolValue). IsSymbolOf file x symbol) what (subst (IsSymbolOf file (get_or unit.symbols k no_symbol)) place (symbol_given unit is k lt)));
      relocations = read.relocations ∙ (ap relocations_of same ∙ relocations_given unit is);
    }
