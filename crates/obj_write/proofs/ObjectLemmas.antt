-- The sections of a unit's file, one after the other.
use Rattle.std.proofs.Common.{◌≡◌, ℕ, zero, suc, ◌+◌, ◌<◌, ◌≤◌, List, [], ◌∷◌, ◌++◌, map, refl, ap, sym, subst, ◌∙◌, arith, append_assoc, length, get_or, take, length-append}
use Rattle.std.specs.Prelude.{codes}
use Rattle.std.specs.List.{All}
use Rattle.std.proofs.lemmas.List.{get_or-map, append-nil, length-map, map-append, map_more, take_all}
use Rattle.std.proofs.lemmas.List.Elements.{All-nil, All-append, All-cons, All-weaker, All-same, All-get_or}
use Rattle.elf_objects.specs.Passes.{each_below, all_below}
use Rattle.elf_objects.proofs.PassLemmas.{each_below_more, each_below_zero, at_each}
use Rattle.asm_text.specs.declared.unit.AsmSection.{AsmSection}
use Rattle.asm_text.specs.declared.unit.AsmRelocation.{AsmRelocation}
use Rattle.asm_text.specs.declared.unit.AsmUnit.{AsmUnit}
use Rattle.asm_line.specs.declared.statement.SectionKind.TheVariants.{Bss}
use Rattle.asm_text.specs.Parts.{SectionValue, UnitValue}
use Rattle.asm_text.specs.Views.{section_value}
use Rattle.asm_text.specs.Unit.{unit_of}
use Rattle.obj_write.specs.declared.sections.Head.{Head}
use Rattle.obj_write.specs.declared.sections.Sections.{Sections}
use Rattle.obj_write.specs.declared.strings.Strings.{Strings}
use Rattle.elf_objects.specs.Numbers.{file_header_size}
use Rattle.obj_write.specs.Strings.{name_at}
use Rattle.obj_write.specs.internal.Strings.{IsTableOf}
use Rattle.obj_write.specs.Sections.{FileSection, padded_contents, header_table}
use Rattle.obj_write.specs.internal.Sections.{AreSections}
use Rattle.obj_write.specs.Symbols.{symbol_table_bytes}
use Rattle.obj_write.specs.Relocations.{relocations_in, relocation_table, where_some, relocated_sections}
use Rattle.obj_write.specs.Object.{table_names, part_names, relocation_name, relocation_names, relocated_in, object_section_names, part_head, part_section, part_sections, relocations_head, symtab_index, relocation_section, relocation_sections, symbols_head, strings_head, symtab_section, file_header, file_bytes}
use Rattle.obj_write.proofs.PassLemmas.{each_numbered, all_numbered}
use Rattle.obj_write.proofs.RelocationLemmas.{counted}
use Rattle.obj_write.proofs.TableLemmas.{length_heads}

-- ---- the sections with relocations

index_within : (rs : List AsmRelocation) (i n : ℕ) → i < n → All (λ k. k < n) (where_some rs i)
index_within [] i n lt = All-nil (λ k. k < n)
index_within (r ∷ rs) i n lt = All-cons (λ k. k < n) i [] lt (All-nil (λ k. k < n))

relocated_below : (rs : List AsmRelocation) (n m : ℕ) → n ≤ m → All (λ k. k < m) (relocated_sections rs n)
unfolding relocated_sections all_below
relocated_below rs zero m le = All-nil (λ k. k < m)
relocated_below rs (suc n) m le = All-append (λ k. k < m) (relocated_sections rs n) (where_some (relocations_in rs n) n) (relocated_below rs n m (omega arith)) (index_within (relocations_in rs n) n m (omega arith))

-- they are sections of the unit
pub relocated_within : (rs : List AsmRelocation) (n : ℕ) → All (λ k. k < n) (relocated_sections rs n)
relocated_within rs n = relocated_below rs n n (omega arith)

-- so are these
pub these_within : (unit : AsmUnit) (list : List ℕ) → list ≡ relocated_in (unit_of unit) → All (λ i. i < length unit.sections.items) list
these_within unit list is =
    let n = length-map unit.sections.items section_value in
    All-weaker (λ i. i < length (map section_value unit.sections.items)) (λ i. i < length unit.sections.items) (λ i lt. omega (arith, n)) list
    (All-same (λ i. i < length (map section_value unit.sections.items)) list (relocated_in (unit_of unit)) is
    (relocated_within unit.relocations.items (length (map section_value unit.sections.items))))

length_index : (rs : List AsmRelocation) (i : ℕ) → length (where_some rs i) ≤ 1
length_index [] i = omega arith
length_index (r ∷ rs) i = omega arith

-- there are no more of them than sections
pub relocated_few : (rs : List AsmRelocation) (n : ℕ) → length (relocated_sections rs n) ≤ n
unfolding relocated_sections all_below
relocated_few rs zero = omega arith
relocated_few rs (suc n) =
    let a = length-append (relocated_sections rs n) (where_some (relocations_in rs n) n) in
    let b = relocated_few rs n in
    let c = length_index (relocations_in rs n) n in
    omega (arith, a, b, c)

-- ---- names

-- a section for a place past the end
abbrev pub no_part : SectionValue
no_part = record { name = []; kind = Bss; size = 0; bytes = [] }

-- the name of the relocations of the section of this index
abbrev pub relocation_name_at : List SectionValue → ℕ → List ℕ
relocation_name_at sections i = relocation_name (get_or sections i no_part)

map_where : {A B : Type 0} (f : A → B) (rs : List AsmRelocation) (x : A) → map f (where_some rs x) ≡ where_some rs (f x)
map_where f [] x = refl
map_where f (r ∷ rs) x = refl

names_below : (rs : List AsmRelocation) (f : ℕ → List ℕ) (n : ℕ) → all_below (λ i. where_some (relocations_in rs i) (f i)) n ≡ map f (relocated_sections rs n)
unfolding relocated_sections all_below
names_below rs f zero = refl
names_below rs f (suc n) =
    ap (λ l. l ++ where_some (relocations_in rs n) (f n)) (names_below rs f n)
    ∙ (ap (λ l. map f (relocated_sections rs n) ++ l) (sym (map_where f (relocations_in rs n) n))
    ∙ sym (map-append f (relocated_sections rs n) (where_some (relocations_in rs n) n)))

-- by the indexes of their sections
pub relocation_names_are : (unit : UnitValue) → relocation_names unit ≡ map (relocation_name_at unit.sections) (relocated_in unit)
unfolding relocation_names
relocation_names_are unit =
    let f : ℕ → SectionValue → List (List ℕ) = λ i s. where_some (relocations_in unit.relocations i) (relocation_name s) in
    all_numbered f unit.sections no_part ∙ names_below unit.relocations (relocation_name_at unit.sections) (length unit.sections)

-- one name more
pub name_added : (unit : AsmUnit) (relocated : List ℕ) (i : ℕ) (x : AsmSection) (text : List ℕ) (names : List (List ℕ)) (strings : Strings)
    → relocated ≡ relocated_in (unit_of unit) → i < length relocated → x ≡ get_or unit.sections.items (get_or relocated i 0) x → text ≡ (section_value x).name
    → let of_first : ℕ → List (List ℕ) = λ n. map (relocation_name_at (unit_of unit).sections) (take n relocated) in
    IsTableOf ((names ++ of_first i) ++ (codes ".rela" ++ text) ∷ []) strings → IsTableOf (names ++ of_first (i + 1)) strings
name_added unit relocated i x text names strings these lt at is table =
    let sections = (unit_of unit).sections in
    let before = map (relocation_name_at sections) (take i relocated) in
    let within = these_within unit relocated these i 0 lt in
    let name : text ≡ (get_or sections (get_or relocated i 0) no_part).name =
    is ∙ ap (λ (s : AsmSection). (section_value s).name) at ∙ ap (λ (s : SectionValue). s.name) (sym (get_or-map section_value unit.sections.items (get_or relocated i 0) x no_part within)) in
    subst (λ (l : List (List ℕ)). IsTableOf l strings)
    (append_assoc names before ((codes ".rela" ++ text) ∷ [])
    ∙ ap (λ l. names ++ l) (ap (λ (n : List ℕ). before ++ (codes ".rela" ++ n) ∷ []) name ∙ sym (map_more (relocation_name_at sections) relocated i 0 lt)))
    table

-- all names of tables of relocations
pub names_added : (unit : AsmUnit) (relocated : List ℕ) (i : ℕ) → relocated ≡ relocated_in (unit_of unit) → length relocated ≤ i
    → map (relocation_name_at (unit_of unit).sections) (take i relocated) ≡ relocation_names (unit_of unit)
names_added unit relocated i these all =
    ap (map (relocation_name_at (unit_of unit).sections)) (take_all i relocated all ∙ these) ∙ sym (relocation_names_are (unit_of unit))

-- the names that were put are those of the sections
pub names_whole : (unit : AsmUnit) (parts : List AsmSection) (strings : Strings) → parts ≡ unit.sections.items
    → IsTableOf ((part_names (map section_value parts) ++ table_names) ++ relocation_names (unit_of unit)) strings → IsTableOf (object_section_names (unit_of unit)) strings
unfolding object_section_names
names_whole unit parts strings p is =
    subst (λ (l : List (List ℕ)). IsTableOf l strings)
    (ap (λ (l : List AsmSection). (part_names (map section_value l) ++ table_names) ++ relocation_names (unit_of unit)) p
    ∙ append_assoc (part_names (map section_value unit.sections.items)) table_names (relocation_names (unit_of unit)))
    is

-- how many there are
pub length_names : (unit : UnitValue) → length (object_section_names unit) ≡ length unit.sections + (3 + length (relocated_in unit))
unfolding object_section_names
length_names unit =
    let a = length-append (part_names unit.sections) (table_names ++ relocation_names unit) in
    let b = length-append table_names (relocation_names unit) in
    let c = length-map unit.sections (λ (s : SectionValue). s.name) in
    let d = ap length (relocation_names_are unit) ∙ length-map (relocated_in unit) (relocation_name_at unit.sections) in
    omega (arith, a, b, c, d)

-- the place of a name of a section
pub section_name_at : (unit : UnitValue) (names : Strings) (k index at : ℕ) → IsTableOf (object_section_names unit) names
    → ((list : List (List ℕ)) → IsTableOf list names → index < length list → at ≡ name_at list index)
    → index ≡ k → k < length unit.sections + (3 + length (relocated_in unit)) → at ≡ name_at (object_section_names unit) k
section_name_at unit names k index at table place same within =
    let n = length_names unit in place (object_section_names unit) table (omega (arith, n)) ∙ ap (name_at (object_section_names unit)) same

-- how many sections the unit has
pub part_count : (unit : AsmUnit) → unit.sections.len ≡ length (map section_value unit.sections.items)
part_count unit = unit.sections.ok.0 ∙ sym (length-map unit.sections.items section_value)

-- ---- sections of the unit

-- the section of this index
abbrev pub part_of : UnitValue → ℕ → FileSection
part_of unit i = part_section unit i (get_or unit.sections i no_part)

pub parts_each : (unit : UnitValue) → part_sections unit ≡ each_below (part_of unit) (length unit.sections)
unfolding part_sections
parts_each unit = each_numbered (part_section unit) unit.sections no_part

pub no_parts : (unit : UnitValue) (s : Sections) → AreSections [] s → AreSections (each_below (part_of unit) 0) s
no_parts unit s is = subst (λ (l : List FileSection). AreSections l s) (sym (each_below_zero (part_of unit))) is

part_is : (unit : AsmUnit) (i name : ℕ) (x : AsmSection) → i < length unit.sections.items → x ≡ get_or unit.sections.items i x
    → name ≡ name_at (object_section_names (unit_of unit)) i
    → let value : FileSection = record { head = part_head (section_value x) name; content = x.bytes.items } in value ≡ part_of (unit_of unit) i
unfolding part_section
part_is unit i name x lt is at =
    let v : ℕ → SectionValue → FileSection = λ n s. record { head = part_head s n; content = s.bytes } in
    ap (λ n. v n (section_value x)) at
    ∙ ap (v (name_at (object_section_names (unit_of unit)) i)) (ap section_value is ∙ sym (get_or-map section_value unit.sections.items i x no_part lt))

-- one section more
pub part_added : (unit : AsmUnit) (names : Strings) (i name : ℕ) (head : Head) (x : AsmSection) (items : List AsmSection) (content : List ℕ) (old new : Sections) → i < length items → x ≡ get_or items i x
    → items ≡ unit.sections.items → content ≡ x.bytes.items
    → IsTableOf (object_section_names (unit_of unit)) names
    → ((list : List (List ℕ)) → IsTableOf list names → i < length list → name ≡ name_at list i)
    → head ≡ part_head (section_value x) name
    → ((sections : List FileSection) → AreSections sections old → AreSections (sections ++ record { head = head; content = content } ∷ []) new)
    → AreSections (each_below (part_of (unit_of unit)) i) old → AreSections (each_below (part_of (unit_of unit)) (i + 1)) new
part_added unit names i name head x items content old new lt is all held table place made added so_far =
    let n = length-map unit.sections.items section_value in
    let m : length items ≡ length unit.sections.items = ap length all in
    let at : name ≡ name_at (object_section_names (unit_of unit)) i = section_name_at (unit_of unit) names i i name table place refl (omega (arith, n, m)) in
    let there : x ≡ get_or unit.sections.items i x = is ∙ ap (λ (l : List AsmSection). get_or l i x) all in
    let done : List FileSection = each_below (part_of (unit_of unit)) i in
    subst (λ (l : List FileSection). AreSections l new)
    (ap (λ (h : Head). done ++ record { head = h; content = content } ∷ []) made
    ∙ (ap (λ (c : List ℕ). done ++ record { head = part_head (section_value x) name; content = c } ∷ []) held
    ∙ (ap (λ (s : FileSection). done ++ s ∷ []) (part_is unit i name x (omega (arith, m)) there at) ∙ sym (each_below_more (part_of (unit_of unit)) i))))
    (added done so_far)

-- all of them
pub parts_whole : (unit : AsmUnit) (s : Sections) (n : ℕ) → n ≡ length unit.sections.items → AreSections (each_below (part_of (unit_of unit)) n) s → AreSections (part_sections (unit_of unit)) s
parts_whole unit s n all is =
    subst (λ (l : List FileSection). AreSections l s)
    (ap (each_below (part_of (unit_of unit))) (all ∙ sym (length-map unit.sections.items section_value)) ∙ sym (parts_each (unit_of unit))) is

-- ---- relocations

-- the relocations of this index
abbrev pub table_of : UnitValue → ℕ → FileSection
table_of unit j = relocation_section unit j (get_or (relocated_in unit) j 0)

pub tables_each : (unit : UnitValue) → relocation_sections unit ≡ each_below (table_of unit) (length (relocated_in unit))
unfolding relocation_sections
tables_each unit = each_numbered (relocation_section unit) (relocated_in unit) 0

pub no_relocations : (unit : UnitValue) (s : Sections) (done : List FileSection) → AreSections done s → AreSections (done ++ each_below (table_of unit) 0) s
no_relocations unit s done is =
    subst (λ (l : List FileSection). AreSections l s) (sym (ap (λ l. done ++ l) (each_below_zero (table_of unit)) ∙ append-nil done)) is

pub relocations_within : {T : Type 0} (items : T → List ℕ) (unit : AsmUnit) (ts : List T) (list : List ℕ) (j d : ℕ)
    → list ≡ relocated_in (unit_of unit)
    → map items ts ≡ each_below (relocation_table unit.relocations.items) (length (map section_value unit.sections.items))
    → j < length list → get_or list j d < length ts
relocations_within items unit ts list j d is tables lt =
    let n = counted items ts (relocation_table unit.relocations.items) (length (map section_value unit.sections.items)) tables in
    let m = length-map unit.sections.items section_value in
    let w = All-get_or (λ i. i < length unit.sections.items) list j d lt (these_within unit list is) in
    omega (arith, n, m, w)

relocation_is : (unit : UnitValue) (j name section : ℕ) (content : List ℕ)
    → name ≡ name_at (object_section_names unit) (length unit.sections + 3 + j)
    → section ≡ get_or (relocated_in unit) j 0 → content ≡ relocation_table unit.relocations section
    → let value : FileSection = record { head = relocations_head name (length content) (symtab_index unit) section; content = content } in value ≡ table_of unit j
unfolding relocation_section
relocation_is unit j name section content at is held =
    let v : ℕ → List ℕ → ℕ → FileSection = λ n c s. record { head = relocations_head n (length c) (symtab_index unit) s; content = c } in
    ap (λ n. v n content section) at
    ∙ (ap (λ c. v (name_at (object_section_names unit) (length unit.sections + 3 + j)) c section) held
    ∙ ap (λ s. v (name_at (object_section_names unit) (length unit.sections + 3 + j)) (relocation_table unit.relocations s) s) is)

-- the table of a section
pub table_at : {T : Type 0} (items : T → List ℕ) (ts : List T) (t : T) (f : ℕ → List ℕ) (n i : ℕ) → i < length ts → t ≡ get_or ts i t → map items ts ≡ each_below f n → items t ≡ f i
table_at items ts t f n i lt is tables =
    let m = counted items ts f n tables in
    ap items is ∙ (sym (get_or-map items ts i t [] lt) ∙ (ap (λ (l : List (List ℕ)). get_or l i []) tables ∙ at_each f n i [] (omega (arith, m))))

-- one table more
pub relocation_added : (unit : UnitValue) (names : Strings) (j index name section size symbols : ℕ) (content : List ℕ) (head : Head) (old new : Sections) (done : List FileSection)
    → j < length (relocated_in unit)
    → IsTableOf (object_section_names unit) names
    → ((list : List (List ℕ)) → IsTableOf list names → index < length list → name ≡ name_at list index)
    → index ≡ length unit.sections + 3 + j
    → section ≡ get_or (relocated_in unit) j 0 → content ≡ relocation_table unit.relocations section
    → size ≡ length content → symbols ≡ symtab_index unit
    → head ≡ relocations_head name size symbols section
    → ((sections : List FileSection) → AreSections sections old → AreSections (sections ++ record { head = head; content = content } ∷ []) new)
    → AreSections (done ++ each_below (table_of unit) j) old → AreSections (done ++ each_below (table_of unit) (j + 1)) new
relocation_added unit names j index name section size symbols content head old new done lt table place same is held sized of made added so_far =
    let at : name ≡ name_at (object_section_names unit) (length unit.sections + 3 + j) = section_name_at unit names (length unit.sections + 3 + j) index name table place same (omega arith) in
    let before : List FileSection = each_below (table_of unit) j in
    let whole : head ≡ relocations_head name (length content) (symtab_index unit) section
    = made ∙ (ap (λ n. relocations_head name n symbols section) sized ∙ ap (λ n. relocations_head name (length content) n section) of) in
    subst (λ (l : List FileSection). AreSections l new)
    (ap (λ (h : Head). (done ++ before) ++ record { head = h; content = content } ∷ []) whole
    ∙ (ap (λ (s : FileSection). (done ++ before) ++ s ∷ []) (relocation_is unit j name section content at is held)
    ∙ (append_assoc done before (table_of unit j ∷ []) ∙ ap (λ l. done ++ l) (sym (each_below_more (table_of unit) j)))))
    (added (done ++ before) so_far)

-- all of them
pub tables_whole : (unit : UnitValue) (s : Sections) (done : List FileSection) (n : ℕ) → n ≡ length (relocated_in unit) → AreSections (done ++ each_below (table_of unit) n) s → AreSections (done ++ relocation_sections unit) s
tables_whole unit s done n all is =
    subst (λ (l : List FileSection). AreSections (done ++ l) s) (ap (each_below (table_of unit)) all ∙ sym (tables_each unit)) is

-- ---- the three tables

-- a table more, of the same header and content
pub table_added : (old new : Sections) (done : List FileSection) (head : Head) (content : List ℕ) (s : FileSection) → head ≡ s.head → content ≡ s.content
    → ((sections : List FileSection) → AreSections sections old → AreSections (sections ++ record { head = head; content = content } ∷ []) new)
    → AreSections done old → AreSections (done ++ s ∷ []) new
table_added old new done head content s made held added is =
    subst (λ (l : List FileSection). AreSections l new)
    (ap (λ (h : Head). done ++ record { head = h; content = content } ∷ []) made ∙ ap (λ (c : List ℕ). done ++ record { head = s.head; content = c } ∷ []) held)
    (added done is)

pub three_added : (done : List FileSection) (a b c : FileSection) (s : Sections) → AreSections (((done ++ a ∷ []) ++ b ∷ []) ++ c ∷ []) s → AreSections (done ++ (a ∷ b ∷ c ∷ [])) s
three_added done a b c s is =
    subst (λ (l : List FileSection). AreSections l s) (ap (λ l. l ++ c ∷ []) (append_assoc done (a ∷ []) (b ∷ [])) ∙ append_assoc done (a ∷ b ∷ []) (c ∷ [])) is

pub symtab_is : (unit : UnitValue) (name size : ℕ) (content : List ℕ) (head : Head) → name ≡ name_at (object_section_names unit) (length unit.sections)
    → content ≡ symbol_table_bytes unit.symbols → size ≡ length content → head ≡ symbols_head name size unit → head ≡ (symtab_section unit).head
unfolding symtab_section
symtab_is unit name size content head at held sized made =
    made ∙ (ap (λ n. symbols_head n size unit) at ∙ ap (λ n. symbols_head (name_at (object_section_names unit) (length unit.sections)) n unit) (sized ∙ ap length held))

pub strings_is : (name at size : ℕ) (content table : List ℕ) (head : Head) → name ≡ at → content ≡ table → size ≡ length content → head ≡ strings_head name size → head ≡ strings_head at (length table)
strings_is name at size content table head named held sized made =
    made ∙ (ap (λ n. strings_head n size) named ∙ ap (strings_head at) (sized ∙ ap length held))

-- ---- the file

pub whole_file : (s : Sections) (names table count : ℕ) (begun out : List ℕ) → table ≡ file_header_size + s.contents.len → count ≡ s.heads.len + 1
    → begun ≡ file_header table count names
    → ((sections : List FileSection) → AreSections sections s → out ≡ begun ++ (padded_contents sections ++ header_table sections))
    → (list : List FileSection) → AreSections list s → out ≡ file_bytes list names
unfolding file_bytes
whole_file s names table count begun out at counted_as first rest list are =
    let a : table ≡ file_header_size + length (padded_contents list) = at ∙ ap (λ n. file_header_size + n) (s.contents.ok.0 ∙ ap length are.contents) in
    let b : count ≡ length list + 1 = counted_as ∙ ap (λ n. n + 1) (s.heads.ok.0 ∙ (ap length are.heads ∙ length_heads list)) in
    rest list are ∙ ap (λ l. l ++ (padded_contents list ++ header_table list)) (first ∙ (ap (λ n. file_header n count names) a ∙ ap (λ n. file_header (file_header_size + length (padded_contents list)) n names) b))

-- a unit has few sections
pub section_small : (unit : AsmUnit) (list : List ℕ) (j : ℕ) → list ≡ relocated_in (unit_of unit) → j < length list → get_or list j 0 < 256
section_small unit list j is lt =
    let few = unit.sound.few_sections in
    let m = length-map unit.sections.items section_value in
    let w = All-get_or (λ i. i < length unit.sections.items) list j 0 lt (these_within unit list is) in
    omega (arith, few, m, w)

-- the sections that were found to have relocations
pub relocated_found : {T : Type 0} (items : T → List ℕ) (unit : AsmUnit) (ts these : List T) (rs : List AsmRelocation) (count : ℕ) (list : List ℕ)
    → rs ≡ unit.relocations.items → count ≡ unit.sections.len → map items ts ≡ each_below (relocation_table rs) count → these ≡ ts
    → ((r : List AsmRelocation) → map items these ≡ each_below (relocation_table r) (length these) → list ≡ relocated_sections r (length these))
    → list ≡ relocated_in (unit_of unit)
relocated_found items unit ts these rs count list all counted_as tables same found =
    let n : length these ≡ count = ap length same ∙ counted items ts (relocation_table rs) count tables in
    let m : length these ≡ length (map section_value unit.sections.items) = n ∙ (counted_as ∙ part_count unit) in
    found unit.relocations.items (ap (map items) same ∙ (tables ∙ (ap (λ r. each_below (relocation_table r) count) all ∙ ap (each_below (relocation_table unit.relocations.items)) (sym n))))
    ∙ ap (relocated_sections unit.relocations.items) m
