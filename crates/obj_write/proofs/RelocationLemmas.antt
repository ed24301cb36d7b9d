-- Relocations, put to the sections that they are of.
use Rattle.std.proofs.Common.{◌≡◌, ◌≢◌, ℕ, ◌+◌, ◌<◌, List, [], ◌∷◌, ◌++◌, map, refl, ap, sym, ◌∙◌, ◌⊎◌, inl, inr, arith, length, take, get_or, set, Bool, true, false, cond, eqb, length-append}
use Rattle.std.specs.List.{filter, flat_map}
use Rattle.std.proofs.lemmas.Bool.{cases_eq, eq-eqb}
use Rattle.std.proofs.lemmas.Bool.Decides.{nat_tests}
use Rattle.std.proofs.lemmas.List.{append-nil, length-set, get_or-set_same, get_or-set_other, ext_get_or, map-set, get_or-map, get_or_default, nil_from_length, length-map, map_push}
use Rattle.std.proofs.lemmas.List.Elements.{filter_more}
use Rattle.std.proofs.lemmas.List.Concat.{flat_map-append}
use Rattle.elf_objects.specs.Passes.{each_below}
use Rattle.elf_objects.proofs.PassLemmas.{each_below_more, each_below_zero, length_each_below, at_each, all_below_more, all_below_zero}
use Rattle.asm_text.specs.declared.unit.AsmRelocation.{AsmRelocation}
use Rattle.obj_write.specs.Relocations.{relocation_entry, relocations_in, relocation_table, where_some, relocated_sections}

-- a relocation for a place past the end
abbrev pub no_relocation : AsmRelocation
no_relocation = record { section = 0; offset = 0; symbol = 0 }

-- ---- one more

table_same : (rs : List AsmRelocation) (i : ℕ) (r : AsmRelocation) (section : ℕ) → i < length rs → r ≡ get_or rs i r
    → relocation_table (take (i + 1) rs) section ≡ relocation_table (take i rs) section ++ flat_map relocation_entry (cond (eqb r.section section) (r ∷ []) [])
unfolding relocation_table
table_same rs i r section lt is =
    ap (flat_map relocation_entry) (filter_more (λ (q : AsmRelocation). eqb q.section section) rs i r lt)
    ∙ (flat_map-append relocation_entry (filter (λ (q : AsmRelocation). eqb q.section section) (take i rs)) _
    ∙ ap (λ (q : AsmRelocation). relocation_table (take i rs) section ++ flat_map relocation_entry (cond (eqb q.section section) (q ∷ []) [])) (sym is))

-- of its section
table_more : (rs : List AsmRelocation) (i : ℕ) (r : AsmRelocation) → i < length rs → r ≡ get_or rs i r
    → relocation_table (take (i + 1) rs) r.section ≡ relocation_table (take i rs) r.section ++ relocation_entry r
table_more rs i r lt is =
    table_same rs i r r.section lt is
    ∙ (ap (λ b. relocation_table (take i rs) r.section ++ flat_map relocation_entry (cond b (r ∷ []) [])) (eq-eqb r.section r.section refl)
    ∙ ap (λ l. relocation_table (take i rs) r.section ++ l) (append-nil (relocation_entry r)))

-- of another section
table_kept : (rs : List AsmRelocation) (i : ℕ) (r : AsmRelocation) (section : ℕ) → i < length rs → r ≡ get_or rs i r → section ≢ r.section
    → relocation_table (take (i + 1) rs) section ≡ relocation_table (take i rs) section
table_kept rs i r section lt is other =
    let not_its : eqb r.section section ≡ false = grind (arith, nat_tests) in
    table_same rs i r section lt is
    ∙ (ap (λ b. relocation_table (take i rs) section ++ flat_map relocation_entry (cond b (r ∷ []) [])) not_its ∙ append-nil (relocation_table (take i rs) section))

at_set : (f g : ℕ → List ℕ) (n s : ℕ) (y : List ℕ) → s < n → g s ≡ y → ((k : ℕ) → k < n → k ≢ s → g k ≡ f k)
    → (k : ℕ) → k < n → (k ≡ s) ⊎ (k ≡ s → ⊥) → g k ≡ get_or (set (each_below f n) s y) k []
at_set f g n s y within here others k lt (inl e) =
    let counted = length_each_below f n in
    ap g e ∙ (here ∙ (sym (get_or-set_same (each_below f n) s y [] (omega (arith, counted))) ∙ ap (λ (j : ℕ). get_or (set (each_below f n) s y) j []) (sym e)))
at_set f g n s y within here others k lt (inr other) =
    others k lt other ∙ (sym (at_each f n k [] lt) ∙ sym (get_or-set_other (each_below f n) s k y [] other))

-- values that differ at one index
each_below_set : (f g : ℕ → List ℕ) (n s : ℕ) (y : List ℕ) → s < n → g s ≡ y → ((k : ℕ) → k < n → k ≢ s → g k ≡ f k) → each_below g n ≡ set (each_below f n) s y
each_below_set f g n s y within here others =
    let a = length_each_below g n in
    let b = length_each_below f n in
    let c = length-set (each_below f n) s y in
    ext_get_or [] (each_below g n) (set (each_below f n) s y) (omega (arith, a, b, c))
    (λ k lt. let in_range : k < n = omega (arith, a) in at_each g n k [] in_range ∙ at_set f g n s y within here others k in_range (cases_eq k s))

-- the tables with one relocation more
pub tables_more : (rs : List AsmRelocation) (i count : ℕ) (r : AsmRelocation) (old new : List (List ℕ)) (table : List ℕ) → i < length rs → r ≡ get_or rs i r → r.section < count
    → old ≡ each_below (relocation_table (take i rs)) count
    → table ≡ get_or old r.section [] ++ relocation_entry r
    → new ≡ set old r.section table
    → new ≡ each_below (relocation_table (take (i + 1) rs)) count
tables_more rs i count r old new table lt is within so_far grown stored =
    let here : get_or old r.section [] ≡ relocation_table (take i rs) r.section
    = ap (λ (l : List (List ℕ)). get_or l r.section []) so_far ∙ at_each (relocation_table (take i rs)) count r.section [] within in
    let y : relocation_table (take (i + 1) rs) r.section ≡ table
    = table_more rs i r lt is ∙ (ap (λ l. l ++ relocation_entry r) (sym here) ∙ sym grown) in
    stored ∙ (ap (λ (l : List (List ℕ)). set l r.section table) so_far
    ∙ sym (each_below_set (relocation_table (take i rs)) (relocation_table (take (i + 1) rs)) count r.section table within y (λ k _ other. table_kept rs i r k lt is other)))

-- how many there are
pub counted : {T : Type 0} (items : T → List ℕ) (ts : List T) (f : ℕ → List ℕ) (n : ℕ) → map items ts ≡ each_below f n → length ts ≡ n
counted items ts f n e = sym (length-map ts items) ∙ (ap length e ∙ length_each_below f n)

-- the same of tables as they are kept
pub tables_stored : {T : Type 0} (items : T → List ℕ) (rs : List AsmRelocation) (i count : ℕ) (d r : AsmRelocation) (old : List T) (was table : T)
    → i < length rs → r ≡ get_or rs i d → r.section < count
    → map items old ≡ each_below (relocation_table (take i rs)) count
    → was ≡ get_or old r.section was
    → items table ≡ items was ++ relocation_entry r
    → map items (set old r.section table) ≡ each_below (relocation_table (take (i + 1) rs)) count
tables_stored items rs i count d r old was table lt is within so_far there grown =
    let n = counted items old (relocation_table (take i rs)) count so_far in
    let before : get_or (map items old) r.section [] ≡ items was = get_or-map items old r.section was [] (omega (arith, n)) ∙ ap items (sym there) in
    tables_more rs i count r (map items old) (map items (set old r.section table)) (items table) lt
    (is ∙ get_or_default rs i d r lt) within so_far
    (grown ∙ ap (λ l. l ++ relocation_entry r) (sym before))
    (map-set items old r.section table)

-- ---- the sections that have some

pub length_entry : (r : AsmRelocation) → length (relocation_entry r) ≡ 12
unfolding relocation_entry
length_entry r = refl

some_bytes : (rs : List AsmRelocation) → flat_map relocation_entry rs ≡ [] → rs ≡ []
some_bytes [] e = refl
some_bytes (r ∷ rs) e =
    let a = length-append (relocation_entry r) (flat_map relocation_entry rs) in
    let b = length_entry r in
    let c : length (relocation_entry r ++ flat_map relocation_entry rs) ≡ 0 = ap length e in
    absurd (omega (arith, a, b, c))

relocated_by : (rs : List AsmRelocation) (i : ℕ) (table : List ℕ) (empty : Bool) → table ≡ flat_map relocation_entry rs → (length table ≡ 0 → empty ≡ true) → (empty ≡ true → length table ≡ 0)
    → where_some rs i ≡ cond empty [] (i ∷ [])
relocated_by [] i table true is sure only = refl
relocated_by [] i table false is sure only = let z : length table ≡ 0 = ap length is in let t = sure z in cc
relocated_by (r ∷ rs) i table false is sure only = refl
relocated_by (r ∷ rs) i table true is sure only =
    let z = only refl in
    let none = some_bytes (r ∷ rs) (sym is ∙ nil_from_length table z) in cc

-- one empty table more
pub no_tables : {T : Type 0} (items : T → List ℕ) (ts : List T) → ts ≡ [] → map items ts ≡ each_below (relocation_table []) 0
no_tables items ts e = ap (map items) e ∙ sym (each_below_zero (relocation_table []))

pub empty_more : {T : Type 0} (items : T → List ℕ) (old new : List T) (t : T) (i : ℕ) → new ≡ old ++ t ∷ [] → items t ≡ []
    → map items old ≡ each_below (relocation_table []) i → map items new ≡ each_below (relocation_table []) (i + 1)
unfolding relocation_table
empty_more items old new t i more none so_far =
    ap (map items) more ∙ (map_push items old t ∙ (ap (λ l. l ++ items t ∷ []) so_far
    ∙ (ap (λ (l : List ℕ). each_below (relocation_table []) i ++ l ∷ []) none ∙ sym (each_below_more (relocation_table []) i))))

-- one section more
pub relocated_more : {T : Type 0} (items : T → List ℕ) (ts : List T) (t : T) (i : ℕ) (old new : List ℕ) (empty : Bool) (rs : List AsmRelocation)
    → i < length ts → t ≡ get_or ts i t → empty ≡ eqb (length (items t)) 0
    → new ≡ old ++ cond empty [] (i ∷ [])
    → map items ts ≡ each_below (relocation_table rs) (length ts)
    → old ≡ relocated_sections rs i → new ≡ relocated_sections rs (i + 1)
unfolding relocated_sections relocation_table
relocated_more items ts t i old new empty rs lt is tested more tables so_far =
    let table : items t ≡ relocation_table rs i
    = ap items is ∙ (sym (get_or-map items ts i t [] lt) ∙ (ap (λ (l : List (List ℕ)). get_or l i []) tables ∙ at_each (relocation_table rs) (length ts) i [] lt)) in
    more ∙ (ap (λ l. l ++ cond empty [] (i ∷ [])) so_far
    ∙ (ap (λ l. relocated_sections rs i ++ l) (sym (relocated_by (relocations_in rs i) i (items t) empty table (λ z. grind (arith, nat_tests)) (λ z. grind (arith, nat_tests))))
    ∙ sym (all_below_more (λ k. where_some (relocations_in rs k) k) i)))

pub none_relocated : (rs : List AsmRelocation) (l : List ℕ) → l ≡ [] → l ≡ relocated_sections rs 0
unfolding relocated_sections
none_relocated rs l e = e ∙ sym (all_below_zero (λ k. where_some (relocations_in rs k) k))
