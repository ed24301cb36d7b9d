-- What holds of the sections, symbols and relocations of an object.
use Rattle.std.proofs.Common.{◌≡◌, ℕ, zero, suc, ◌+◌, ◌*◌, ◌-◌, ◌/◌, ◌<◌, ◌≤◌, List, [], ◌∷◌, length, drop, Option, Some, None, Bool, true, false, not, ◌&&◌, ◌||◌, is_none, refl, ap, sym, ◌∙◌, ◌⊎◌, inl, inr, arith, subst, eqb, ltb, cond, get_or, length-take, length-drop}
use Rattle.std.proofs.lemmas.Bool.{cases_lt, ltb-true, and_parts}
use Rattle.std.proofs.lemmas.Bool.Decides.{nat_tests}
use Rattle.std.proofs.lemmas.List.Sums.{prefix_len-le-length}
use Rattle.std.proofs.lemmas.List.Elements.{All-append, All-push, All-nil, All-same}
use Rattle.std.proofs.lemmas.Option.{slice_get_within, get_or_from_slice_get, slice_get-get_or}
use Rattle.std.specs.Prelude.{slice_get, IfSome}
use Rattle.std.specs.List.{All, position_from}
use Rattle.std.specs.Option.{option_map}
use Rattle.elf_objects.specs.declared.fault.ElfFault.{ElfFault}
use Rattle.elf_objects.specs.declared.section.Header.{Header}
use Rattle.elf_objects.specs.declared.object.Span.{Span}
use Rattle.elf_objects.specs.declared.object.Symbol.{Symbol}
use Rattle.elf_objects.specs.declared.object.Home.TheVariants as home
use Rattle.elf_objects.specs.declared.object.SectionHead.{SectionHead}
use Rattle.elf_objects.specs.declared.object.Relocation.{Relocation}
use Rattle.elf_objects.specs.Passes.{first_below, each_below, all_below}
use Rattle.std.specs.Option.{option_or}
use Rattle.std.specs.Bool.{then_some}
use Rattle.elf_objects.specs.Header.{section_count, name_table, table_fault}
use Rattle.elf_objects.specs.Section.{header_of, is_absent, section_fault, link_fault, name_table_fault, content, section_faults, link_faults, symbol_table, index_if, is_kept_table, is_kind, is_loaded, is_loaded_header}
use Rattle.elf_objects.specs.Names.{name_end, name_span, names_header, name_fault, name_faults, section_of, sections_of}
use Rattle.elf_objects.specs.Symbol.{table_entry, count_in, strings_of, symbol_fault, symbol_of, home_of, symbols_header, count_of, faults_in, symbol_faults, symbols_in, symbols_of}
use Rattle.elf_objects.specs.Relocation.{relocation_of, entry_fault, relocation_fault, relocation_faults, relocations_at, relocations_of}
use Rattle.elf_objects.specs.Object.{elf_fault_of, contents_fault, ObjectValue, IsObject, IsSpanWithin, IsSectionHead, IsHome, IsSymbol, IsRelocation}
use Rattle.elf_objects.proofs.PassLemmas.{length_each_below, at_each}
use Rattle.elf_objects.proofs.ObjectLemmas.{no_sections_lists}

-- ---- passes

or_else_both : {A : Type 0} (a b : Option A) → option_or a b ≡ None → (a ≡ None) × (b ≡ None)
or_else_both None b e = (refl, e)
or_else_both (Some x) b e = cc

not_refused : (b : Bool) (f : ElfFault) → then_some b f ≡ None → b ≡ false
not_refused false f e = refl
not_refused true f e = cc

below_none_by : {A : Type 0} (f : ℕ → Option A) (n i : ℕ) → (i < n) ⊎ (n ≤ i) → i < suc n → (first_below f n ≡ None) × (f n ≡ None) → (first_below f n ≡ None → i < n → f i ≡ None) → f i ≡ None
below_none_by f n i (inl lt) within e rest = rest e.0 lt
below_none_by f n i (inr le) within e rest = let same : n ≡ i = omega arith in ap f (sym same) ∙ e.1

-- no index below the count gives anything
below_none : {A : Type 0} (f : ℕ → Option A) (n i : ℕ) → first_below f n ≡ None → i < n → f i ≡ None
unfolding first_below
below_none f zero i e lt = absurd (omega arith)
below_none f (suc n) i e lt = below_none_by f n i (cases_lt i n) lt (or_else_both (first_below f n) (f n) e) (below_none f n i)

below_some_by : {A : Type 0} (f : ℕ → Option A) (n : ℕ) (x : A) (o : Option A) → option_or o (f n) ≡ Some x → (o ≡ Some x → (i : ℕ) × (i < n) × (f i ≡ Some x)) → (i : ℕ) × (i < suc n) × (f i ≡ Some x)
below_some_by f n x None e rest = (n, omega arith, e)
below_some_by f n x (Some y) e rest = let k = rest e in (k.0, omega (arith, k.1), k.2)

-- some index below the count gives what is found
below_some : {A : Type 0} (f : ℕ → Option A) (n : ℕ) (x : A) → first_below f n ≡ Some x → (i : ℕ) × (i < n) × (f i ≡ Some x)
unfolding first_below
below_some f zero x e = cc
below_some f (suc n) x e = below_some_by f n x (first_below f n) e (below_some f n x)

-- what holds at each index holds of all values
all_each_below : {A : Type 0} (P : A → Type 0) (f : ℕ → A) (n : ℕ) → ((i : ℕ) → i < n → P (f i)) → All P (each_below f n)
unfolding each_below
all_each_below P f zero each = All-nil P
all_each_below P f (suc n) each = All-push P (each_below f n) (f n) (all_each_below P f n (λ i lt. each i (omega arith))) (each n (omega arith))

all_all_below : {A : Type 0} (P : A → Type 0) (f : ℕ → List A) (n : ℕ) → ((i : ℕ) → i < n → All P (f i)) → All P (all_below f n)
unfolding all_below
all_all_below P f zero each = All-nil P
all_all_below P f (suc n) each = All-append P (all_below f n) (f n) (all_all_below P f n (λ i lt. each i (omega arith))) (each n (omega arith))

-- ---- an object's file

-- what holds of an object's file with sections
record IsSound (file : List ℕ) : Type 0 where
  sections : first_below (section_fault file) (section_count file) ≡ None
  links : first_below (link_fault file) (section_count file) ≡ None
  name_table : name_table_fault file ≡ None
  names : first_below (name_fault file) (section_count file) ≡ None
  symbols : symbol_faults file ≡ None
  relocations : first_below (relocation_fault file (count_of (symbols_header file))) (section_count file) ≡ None

contents_sound : (file : List ℕ) → contents_fault file ≡ None → IsSound file
unfolding contents_fault section_faults link_faults name_faults relocation_faults
contents_sound file e =
    let a = or_else_both _ _ e in
    let b = or_else_both _ _ a.1 in
    let c = or_else_both _ _ b.1 in
    let d = or_else_both _ _ c.1 in
    let x = or_else_both _ _ d.1 in
    let y = or_else_both _ _ x.1 in
    let z = or_else_both _ _ y.1 in
    let l = or_else_both _ _ b.0 in
    record { sections = a.0; links = l.0; name_table = l.1; names = c.0; symbols = y.0; relocations = z.0 }

some_sections : (file : List ℕ) (b : Bool) → b ≡ false → cond b None (option_or (table_fault file) (contents_fault file)) ≡ None → contents_fault file ≡ None
some_sections file true e h = cc
some_sections file false e h = (or_else_both _ _ h).1

sound_of : (file : List ℕ) → elf_fault_of file ≡ None → 0 < section_count file → IsSound file
unfolding elf_fault_of
sound_of file e some = contents_sound file (some_sections file (eqb (section_count file) 0) (grind (arith, nat_tests)) (or_else_both _ _ e).1)

-- ---- bytes and names

-- the bytes of a section that is not absent
section_ends : (file : List ℕ) (i : ℕ) → section_fault file i ≡ None → is_absent (header_of file i) ≡ false → (header_of file i).offset + (header_of file i).size ≤ length file
unfolding section_fault
section_ends file i e present = let no = not_refused _ _ e in grind (arith, nat_tests)

bytes_within_by : (file : List ℕ) (h : Header) (b : Bool) → (b ≡ false → h.offset + h.size ≤ length file) → IsSpanWithin (length file) (cond b (record { start = 0; end = 0 }) (record { start = h.offset; end = h.offset + h.size }))
bytes_within_by file h true e = record { ordered = omega arith; within = omega arith }
bytes_within_by file h false e = let k = e refl in record { ordered = omega arith; within = omega (arith, k) }

bytes_within : (file : List ℕ) (i : ℕ) → IsSound file → i < section_count file → IsSpanWithin (length file) ((section_of file i).bytes)
unfolding section_of
bytes_within file i sound lt = bytes_within_by file (header_of file i) (is_absent (header_of file i)) (section_ends file i (below_none _ _ i sound.sections lt))

bytes_sized_by : (h : Header) (b : Bool) (s : Span) → cond b (record { start = 0; end = 0 }) (record { start = h.offset; end = h.offset + h.size }) ≡ s → s.end ≤ s.start + h.size
bytes_sized_by h true s e = let f : 0 ≡ s.start = ap (λ (x : Span). x.start) e in let g : 0 ≡ s.end = ap (λ (x : Span). x.end) e in omega (arith, f, g)
bytes_sized_by h false s e = let f : h.offset ≡ s.start = ap (λ (x : Span). x.start) e in let g : h.offset + h.size ≡ s.end = ap (λ (x : Span). x.end) e in omega (arith, f, g)

-- a section has no more bytes than its size
bytes_sized : (file : List ℕ) (i : ℕ) → (section_of file i).bytes.end ≤ (section_of file i).bytes.start + (section_of file i).size
unfolding section_of
bytes_sized file i = bytes_sized_by (header_of file i) (is_absent (header_of file i)) (section_of file i).bytes refl

-- a search that finds something looks at something
looked_at : (p : ℕ → Bool) (at : ℕ) (bytes : List ℕ) → is_none (position_from p at bytes) ≡ false → 0 < length bytes
looked_at p at [] e = cc
looked_at p at (byte ∷ bytes) e = omega arith

-- a name of a string table that is in the file
name_within : (file : List ℕ) (strings : Header) (offset : ℕ) → is_none (name_end file strings offset) ≡ false → strings.offset + strings.size ≤ length file → IsSpanWithin (length file) (name_span file strings offset)
unfolding name_end
name_within file strings offset some ends =
    let rest = drop offset (content file strings) in
    let found = looked_at (λ b. eqb b 0) offset rest some in
    let named = prefix_len-le-length (λ b. not (eqb b 0)) rest in
    let short : length rest ≤ strings.size - offset = simp (length-drop, length-take) (omega arith) in
    record { ordered = omega arith; within = omega (arith, found, named, short) }

-- a section that is a string table is in the file
strings_end : (file : List ℕ) (i : ℕ) → IsSound file → i < section_count file → eqb (header_of file i).kind 3 ≡ true → (header_of file i).offset + (header_of file i).size ≤ length file
strings_end file i sound lt kind = section_ends file i (below_none _ _ i sound.sections lt) (grind (arith, nat_tests))

-- the name table is a string table
table_kind : (file : List ℕ) → link_fault file (name_table file) ≡ None → eqb (names_header file).kind 3 ≡ true
unfolding link_fault
table_kind file e = let no = not_refused _ _ e in grind (arith, nat_tests)

table_index : (file : List ℕ) → name_table_fault file ≡ None → name_table file < section_count file
unfolding name_table_fault
table_index file e = let no = not_refused _ _ e in grind (arith, nat_tests)

named_by : (file : List ℕ) (i : ℕ) → name_fault file i ≡ None → is_none (name_end file (names_header file) ((header_of file i).name)) ≡ false
unfolding name_fault
named_by file i e = not_refused _ _ e

section_name_within : (file : List ℕ) (i : ℕ) → IsSound file → i < section_count file → IsSpanWithin (length file) ((section_of file i).name)
unfolding section_of
section_name_within file i sound lt =
    let at = table_index file sound.name_table in
    let kind = table_kind file (below_none _ _ (name_table file) sound.links at) in
    name_within file (names_header file) ((header_of file i).name) (named_by file i (below_none _ _ i sound.names lt)) (strings_end file (name_table file) sound at kind)

-- ---- sections

pub length_sections : (file : List ℕ) → length (sections_of file) ≡ section_count file
unfolding sections_of
length_sections file = length_each_below (section_of file) (section_count file)

all_sections_of : (file : List ℕ) → elf_fault_of file ≡ None → All (IsSectionHead (length file)) (sections_of file)
unfolding sections_of
all_sections_of file e =
    all_each_below (IsSectionHead (length file)) (section_of file) (section_count file)
    (λ i lt. let sound = sound_of file e (omega arith) in record { name = section_name_within file i sound lt; bytes = bytes_within file i sound lt; sized = bytes_sized file i })

-- the spans of sections are of the file
pub all_sections : (object : ObjectValue) → IsObject object → All (IsSectionHead (length object.file)) object.sections
all_sections object is = All-same (IsSectionHead (length object.file)) object.sections (sections_of object.file) is.sections (all_sections_of object.file is.sound)

-- ---- symbols

home_by : (count n : ℕ) (a b c : Bool) → eqb n 0xFFF1 ≡ b → eqb n 0xFFF2 ≡ c → (not (ltb n count) && not (eqb n 0xFFF1) && not (eqb n 0xFFF2)) ≡ false → IsHome count (cond a home.Undefined (cond b home.Absolute (cond c home.Common (home.In n))))
home_by count n false false false eb ec e = grind (arith, nat_tests)
home_by count n _ _ _ eb ec e = tt

home_in : (count n : ℕ) → (not (ltb n count) && not (eqb n 0xFFF1) && not (eqb n 0xFFF2)) ≡ false → IsHome count (home_of n)
home_in count n e = home_by count n (eqb n 0) (eqb n 0xFFF1) (eqb n 0xFFF2) refl refl e

bad_parts : (a b c d : Bool) → (a || b || c || d) ≡ false → (a ≡ false) × (c ≡ false)
bad_parts false false false false e = (refl, refl)
bad_parts _ _ _ _ e = cc

symbol_law : (file : List ℕ) (table : Header) (k : ℕ) → (strings_of file table).offset + (strings_of file table).size ≤ length file → symbol_fault file table k ≡ None → IsSymbol (length file) (section_count file) (symbol_of file table k)
unfolding symbol_fault symbol_of
symbol_law file table zero ends e = record { name = record { ordered = omega arith; within = omega arith }; home = tt }
symbol_law file table (suc k) ends e =
    let parts = bad_parts _ _ _ _ (not_refused _ _ e) in
    record {
      name = name_within file (strings_of file table) ((table_entry file table (suc k)).name) parts.0 ends;
      home = home_in (section_count file) ((table_entry file table (suc k)).section) parts.1;
    }

index_if_some : (b : Bool) (i s : ℕ) → index_if b i ≡ Some s → (b ≡ true) × (i ≡ s)
index_if_some true i s e = (refl, cc)
index_if_some false i s e = cc

-- the symbol table that is found is one
symbol_table_found : (file : List ℕ) (s : ℕ) → symbol_table file ≡ Some s → (s < section_count file) × (eqb (header_of file s).kind 2 ≡ true)
unfolding symbol_table
symbol_table_found file s e =
    let k = below_some (λ i. index_if (eqb (header_of file i).kind 2) i) (section_count file) s e in
    let same = index_if_some _ k.0 s k.2 in
    subst (λ (j : ℕ). (j < section_count file) × (eqb (header_of file j).kind 2 ≡ true)) same.1 (k.1, same.0)

bad_link_parts : (p k x r s : Bool) → (p || (k && x) || r || s) ≡ false → k ≡ true → x ≡ false
bad_link_parts false true false r s e is = refl
bad_link_parts _ _ _ r s e is = cc

bad_table_parts : (a b c d : Bool) → (not a || not b || c || d) ≡ false → b ≡ true
bad_table_parts true true c d e = refl
bad_table_parts _ _ c d e = cc

strings_linked : (file : List ℕ) (s : ℕ) → link_fault file s ≡ None → eqb (header_of file s).kind 2 ≡ true → is_kind file 3 (header_of file s).link ≡ true
unfolding link_fault
strings_linked file s e kind = bad_table_parts _ _ _ _ (bad_link_parts _ _ _ _ _ (not_refused _ _ e) kind)

symbols_law : (file : List ℕ) (s : ℕ) → IsSound file → symbol_table file ≡ Some s → first_below (symbol_fault file (header_of file s)) (count_in (header_of file s)) ≡ None → All (IsSymbol (length file) (section_count file)) (each_below (symbol_of file (header_of file s)) (count_in (header_of file s)))
symbols_law file s sound found e =
    let at = symbol_table_found file s found in
    let link : (ltb (header_of file s).link (section_count file) ≡ true) × (eqb (header_of file (header_of file s).link).kind 3 ≡ true) = and_parts _ _ (strings_linked file s (below_none _ _ s sound.links at.0) at.1) in
    let lt : (header_of file s).link < section_count file = ltb-true _ _ link.0 in
    let ends = strings_end file (header_of file s).link sound lt link.1 in
    all_each_below (IsSymbol (length file) (section_count file)) (symbol_of file (header_of file s)) (count_in (header_of file s))
    (λ k lt. symbol_law file (header_of file s) k ends (below_none _ _ k e lt))

all_symbols_by : (file : List ℕ) (o : Option ℕ) → IsSound file → symbol_table file ≡ o → faults_in file (option_map (header_of file) o) ≡ None → All (IsSymbol (length file) (section_count file)) (symbols_in file (option_map (header_of file) o))
all_symbols_by file None sound found e = All-nil _
all_symbols_by file (Some s) sound found e = symbols_law file s sound found e

all_symbols_sound : (file : List ℕ) → IsSound file → All (IsSymbol (length file) (section_count file)) (symbols_of file)
unfolding symbols_of symbol_faults symbols_header
all_symbols_sound file sound = all_symbols_by file (symbol_table file) sound refl sound.symbols

all_symbols_of : (file : List ℕ) → elf_fault_of file ≡ None → (section_count file ≡ 0) ⊎ (0 < section_count file) → All (IsSymbol (length file) (section_count file)) (symbols_of file)
all_symbols_of file e (inl none) =
    let P : Symbol → Type 0 = IsSymbol (length file) (section_count file) in
    All-same P (symbols_of file) [] (no_sections_lists file none).1 (All-nil P)
all_symbols_of file e (inr some) = all_symbols_sound file (sound_of file e some)

none_or_some : (n : ℕ) → (n ≡ 0) ⊎ (0 < n)
none_or_some zero = inl refl
none_or_some (suc n) = inr (omega arith)

count_sections : (object : ObjectValue) → IsObject object → length object.sections ≡ section_count object.file
count_sections object is = ap length is.sections ∙ length_sections object.file

-- the names of symbols are of the file, and their sections of the object
pub all_symbols : (object : ObjectValue) → IsObject object → All (IsSymbol (length object.file) (length object.sections)) object.symbols
all_symbols object is =
    rw (count_sections object is)
    (All-same (IsSymbol (length object.file) (section_count object.file)) object.symbols (symbols_of object.file) is.symbols
    (all_symbols_of object.file is.sound (none_or_some (section_count object.file))))

-- ---- relocations

length_symbols_by : (file : List ℕ) (o : Option Header) → length (symbols_in file o) ≡ count_of o
length_symbols_by file None = refl
length_symbols_by file (Some table) = length_each_below (symbol_of file table) (count_in table)

length_symbols : (file : List ℕ) → length (symbols_of file) ≡ count_of (symbols_header file)
unfolding symbols_of
length_symbols file = length_symbols_by file (symbols_header file)

count_few : (file : List ℕ) (s : ℕ) → IsSound file → symbol_table file ≡ Some s → 16 * count_in (header_of file s) ≤ length file
count_few file s sound found =
    let at = symbol_table_found file s found in
    let ends = section_ends file s (below_none _ _ s sound.sections at.0) (grind (arith, nat_tests)) in
    omega (arith, ends)

symbols_few_by : (file : List ℕ) (o : Option ℕ) → IsSound file → symbol_table file ≡ o → 16 * length (symbols_in file (option_map (header_of file) o)) ≤ length file
symbols_few_by file None sound found = omega arith
symbols_few_by file (Some s) sound found =
    let e = length_each_below (symbol_of file (header_of file s)) (count_in (header_of file s)) in
    let f = count_few file s sound found in
    omega (arith, e, f)

symbols_few_sound : (file : List ℕ) → IsSound file → 16 * length (symbols_of file) ≤ length file
unfolding symbols_of symbols_header
symbols_few_sound file sound = symbols_few_by file (symbol_table file) sound refl

symbols_few_of : (file : List ℕ) → elf_fault_of file ≡ None → (section_count file ≡ 0) ⊎ (0 < section_count file) → 16 * length (symbols_of file) ≤ length file
symbols_few_of file e (inl none) =
    let f : length (symbols_of file) ≡ 0 = ap length (no_sections_lists file none).1 in
    omega (arith, f)
symbols_few_of file e (inr some) = symbols_few_sound file (sound_of file e some)

-- each symbol takes 16 bytes of the file
pub symbols_few : (object : ObjectValue) → IsObject object → 16 * length object.symbols ≤ length object.file
symbols_few object is =
    let e : length object.symbols ≡ length (symbols_of object.file) = ap length is.symbols in
    let f = symbols_few_of object.file is.sound (none_or_some (section_count object.file)) in
    omega (arith, e, f)

target_linked : (file : List ℕ) (i : ℕ) → link_fault file i ≡ None → is_kept_table file (header_of file i) ≡ true → (header_of file i).info < section_count file
unfolding link_fault
target_linked file i e kept = let no = not_refused _ _ e in grind (arith, nat_tests)

-- a relocation's table, target and symbol are among so many
record IsNumbered (sections symbols : ℕ) (r : Relocation) : Type 0 where
  table : r.table < sections
  target : r.target < sections
  symbol : r.symbol < symbols

symbol_there : (file : List ℕ) (symbols i : ℕ) (h : Header) (k : ℕ) → entry_fault file symbols i h k ≡ None → (relocation_of file i h k).symbol < symbols
unfolding entry_fault
symbol_there file symbols i h k e = let no = not_refused _ _ e in grind (arith, nat_tests)

relocation_law : (file : List ℕ) (symbols i : ℕ) (h : Header) (k : ℕ) → i < section_count file → h.info < section_count file → entry_fault file symbols i h k ≡ None → IsNumbered (section_count file) symbols (relocation_of file i h k)
unfolding relocation_of
relocation_law file symbols i h k lt target e = record { table = lt; target = target; symbol = symbol_there file symbols i h k e }

relocations_by : (file : List ℕ) (symbols i : ℕ) (b : Bool) → is_kept_table file (header_of file i) ≡ b → i < section_count file → link_fault file i ≡ None → cond b (first_below (entry_fault file symbols i (header_of file i)) ((header_of file i).size / 12)) None ≡ None → All (IsNumbered (section_count file) symbols) (cond b (each_below (relocation_of file i (header_of file i)) ((header_of file i).size / 12)) [])
relocations_by file symbols i false kept lt link e = All-nil _
relocations_by file symbols i true kept lt link e =
    all_each_below (IsNumbered (section_count file) symbols) (relocation_of file i (header_of file i)) ((header_of file i).size / 12)
    (λ k below. relocation_law file symbols i (header_of file i) k lt (target_linked file i link kept) (below_none _ _ k e below))

relocations_law : (file : List ℕ) (symbols i : ℕ) → i < section_count file → link_fault file i ≡ None → relocation_fault file symbols i ≡ None → All (IsNumbered (section_count file) symbols) (relocations_at file i)
unfolding relocation_fault relocations_at
relocations_law file symbols i lt link e = relocations_by file symbols i (is_kept_table file (header_of file i)) refl lt link e

all_relocations_of : (file : List ℕ) → elf_fault_of file ≡ None → All (IsNumbered (section_count file) (count_of (symbols_header file))) (relocations_of file)
unfolding relocations_of
all_relocations_of file e =
    all_all_below (IsNumbered (section_count file) (count_of (symbols_header file))) (relocations_at file) (section_count file)
    (λ i lt. let sound = sound_of file e (omega arith) in
    relocations_law file (count_of (symbols_header file)) i lt (below_none _ _ i sound.links lt) (below_none _ _ i sound.relocations lt))

abbrev HasLoaded : List ℕ → Relocation → Type 0
HasLoaded file r = is_loaded_header (header_of file r.target) ≡ true

loaded_entry : (file : List ℕ) (i : ℕ) (h : Header) (k : ℕ) → is_loaded_header (header_of file h.info) ≡ true → HasLoaded file (relocation_of file i h k)
unfolding relocation_of
loaded_entry file i h k e = e

loaded_by : (file : List ℕ) (i : ℕ) (b : Bool) → is_kept_table file (header_of file i) ≡ b → All (HasLoaded file) (cond b (each_below (relocation_of file i (header_of file i)) ((header_of file i).size / 12)) [])
loaded_by file i false kept = All-nil _
loaded_by file i true kept =
    all_each_below (HasLoaded file) (relocation_of file i (header_of file i)) ((header_of file i).size / 12)
    (λ k below. loaded_entry file i (header_of file i) k (and_parts _ _ kept).1)

loaded_at : (file : List ℕ) (i : ℕ) → All (HasLoaded file) (relocations_at file i)
unfolding relocations_at
loaded_at file i = loaded_by file i (is_kept_table file (header_of file i)) refl

all_loaded_of : (file : List ℕ) → All (HasLoaded file) (relocations_of file)
unfolding relocations_of
all_loaded_of file = all_all_below (HasLoaded file) (relocations_at file) (section_count file) (λ i lt. loaded_at file i)

section_loaded : (file : List ℕ) (i : ℕ) → is_loaded (section_of file i).kind (section_of file i).flags ≡ is_loaded_header (header_of file i)
unfolding section_of
section_loaded file i = refl

target_at : (file : List ℕ) (i : ℕ) (d : SectionHead) → i < section_count file → get_or (sections_of file) i d ≡ section_of file i
unfolding sections_of
target_at file i d lt = at_each (section_of file) (section_count file) i d lt

numbered_in : (object : ObjectValue) → IsObject object → All (IsNumbered (length object.sections) (length object.symbols)) object.relocations
numbered_in object is =
    rw (count_sections object is, ap length is.symbols ∙ length_symbols object.file)
    (All-same (IsNumbered (section_count object.file) (count_of (symbols_header object.file))) object.relocations (relocations_of object.file) is.relocations
    (all_relocations_of object.file is.sound))

target_same : (object : ObjectValue) → IsObject object → (i : ℕ) (head : SectionHead) → slice_get object.sections i ≡ Some head → head ≡ section_of object.file i
target_same object is i head found =
    let n = count_sections object is in
    let within = slice_get_within object.sections i head found in
    sym (get_or_from_slice_get object.sections i head head found)
    ∙ (ap (λ (l : List SectionHead). get_or l i head) is.sections ∙ target_at object.file i head (omega (arith, n, within)))

loaded_by_head : (object : ObjectValue) → IsObject object → (r : Relocation) → HasLoaded object.file r → (o : Option SectionHead) → slice_get object.sections r.target ≡ o → IfSome o (λ s. is_loaded s.kind s.flags ≡ true)
loaded_by_head object is r e None found = tt
loaded_by_head object is r e (Some head) found =
    ap (λ (s : SectionHead). is_loaded s.kind s.flags) (target_same object is r.target head found) ∙ (section_loaded object.file r.target ∙ e)

-- the relocations of an object are of its sections and symbols
pub all_relocations : (object : ObjectValue) → IsObject object → All (IsRelocation object.sections (length object.symbols)) object.relocations
all_relocations object is =
    let loaded = All-same (HasLoaded object.file) object.relocations (relocations_of object.file) is.relocations (all_loaded_of object.file) in
    λ k d lt. let r = get_or object.relocations k d in let n = numbered_in object is k d lt in
    record { table = n.table; target = n.target; loaded = loaded_by_head object is r (loaded k d lt) (slice_get object.sections r.target) refl; symbol = n.symbol }

-- and so is one of them
pub relocation_in : (object : ObjectValue) → IsObject object → (place : ℕ) (r : Relocation) → slice_get object.relocations place ≡ Some r → IsRelocation object.sections (length object.symbols) r
relocation_in object is place r found =
    subst (IsRelocation object.sections (length object.symbols)) (get_or_from_slice_get object.relocations place r r found)
    (all_relocations object is place r (slice_get_within object.relocations place r found))

abbrev pub IsOfLoaded : List SectionHead → Relocation → Type 0
IsOfLoaded sections r = (d : SectionHead) → r.target < length sections → is_loaded (get_or sections r.target d).kind (get_or sections r.target d).flags ≡ true

loaded_there : (sections : List SectionHead) (i : ℕ) (d : SectionHead) (o : Option SectionHead) → slice_get sections i ≡ o → i < length sections → IfSome o (λ s. is_loaded s.kind s.flags ≡ true) → is_loaded (get_or sections i d).kind (get_or sections i d).flags ≡ true
loaded_there sections i d None found lt e = let some = slice_get-get_or sections i d lt in cc
loaded_there sections i d (Some head) found lt e = ap (λ (s : SectionHead). is_loaded s.kind s.flags) (get_or_from_slice_get sections i head d found) ∙ e

-- the targets of relocations are loaded
pub all_loaded : (object : ObjectValue) → IsObject object → All (IsOfLoaded object.sections) object.relocations
all_loaded object is = λ k d lt. λ head within.
    let r = get_or object.relocations k d in
    loaded_there object.sections r.target head (slice_get object.sections r.target) refl within (all_relocations object is k d lt).loaded
