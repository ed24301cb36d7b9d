-- One element more of a text that is written.
use Rattle.std.proofs.Common.{◌≡◌, ℕ, zero, suc, Bool, true, false, Vec, Bor, Some, ◌+◌, ◌<◌, ◌≤◌, List, [], ◌∷◌, ◌++◌, codes, drop, length, length-append, get_or, map, refl, ap, sym, ◌∙◌, arith, subst}
use Rattle.std.specs.List.{flat_map, range_with_len}
use Rattle.std.specs.Prelude.{filter, insert, nat_lt, option_map, slice_get}
use Rattle.std.proofs.lemmas.Bool.Decides.{nat_tests}
use Rattle.std.proofs.lemmas.List.{append_assoc, append-nil, drop_all, drop_more, flat_map_more, get_or_default, length-map}
use Rattle.std.proofs.lemmas.Option.{get_or_from_slice_get, same_Some, slice_get-map, slice_get_within}
use Rattle.std.specs.declared.alloc.Global.{Global}
use Rattle.elf_objects.specs.Object.{ObjectValue}
use Rattle.elf_objects.specs.declared.object.Symbol.{Symbol}
use Rattle.layout_file.specs.declared.parts.ModuleSpec.{ModuleSpec}
use Rattle.layout_file.specs.Values.{LayoutValue}
use Rattle.layout_file.specs.Views.{module_value}
use Rattle.linker.specs.Linkage.{listed_numbers, numbers_in_list}
use Rattle.linker.specs.Numbers.{Linking, numbers_in, linked_number}
use Rattle.link_symbols.specs.declared.item.Item.{Item}
use Rattle.link_symbols.specs.CommonNames.{borrowed, common_name, common_names}
use Rattle.link_symbols.specs.Commons.{Common, common_item, commons_of}
use Rattle.link_symbols.specs.Names.{count_sections}
use Rattle.link_symbols.specs.Parts.{section_items}
use Rattle.link_symbols.specs.Resolved.{items_of}
use Rattle.link_symbols.specs.Symbols.{named_symbols}
use Rattle.link_symbols.proofs.InputLemmas.{count_items}
use Rattle.link_symbols.specs.Passes.{NumberedObject, numbered_objects_from, map_at, part}
use Rattle.link_symbols.proofs.MeaningLemmas.{length_at}
use Rattle.link_symbols.proofs.Steps.{numbered_step, numbered_over}
use Rattle.link_map.specs.Lines.{after_blanks, numbered_text}
use Rattle.link_map.specs.Map.{common_line, common_text, is_shown, symbol_line, symbol_text, symbol_text_if}
use Rattle.link_map.specs.Modules.{PlacedModule, has_boot, placed_module}
use Rattle.mod_layout.specs.Table.{Table}
use Rattle.link_map.specs.Parts.{PartValue, insert_part}
use Rattle.link_map.specs.internal.Values.{insertion_place, HasCommons}

pub piece_more : (cur new piece rest total : List ℕ) → cur ++ (piece ++ rest) ≡ total → new ≡ cur ++ piece → new ++ rest ≡ total
piece_more cur new piece rest total e made = ap (λ (l : List ℕ). l ++ rest) made ∙ (append_assoc cur piece rest ∙ e)

-- a piece after a blank
pub word_more : (cur a new blank word rest total : List ℕ) → cur ++ (blank ++ (word ++ rest)) ≡ total → a ≡ cur ++ blank → new ≡ a ++ word → new ++ rest ≡ total
word_more cur a new blank word rest total e first then = piece_more a new word rest total (piece_more cur a blank (word ++ rest) total e first) then

here : {X : Type 0} (xs : List X) (i : ℕ) (x d : X) → i < length xs → x ≡ get_or xs i d → drop i xs ≡ x ∷ drop (i + 1) xs
here xs i x d h is = drop_more xs i d h ∙ ap (λ y. y ∷ drop (i + 1) xs) (sym is)

pub map_here : {X Y : Type 0} (g : X → Y) (xs : List X) (i : ℕ) (x d : X) → i < length xs → x ≡ get_or xs i d → map g (drop i xs) ≡ g x ∷ map g (drop (i + 1) xs)
map_here g xs i x d h is = ap (map g) (here xs i x d h is)

pub map_over : {X Y : Type 0} (g : X → Y) (xs : List X) (i : ℕ) → length xs ≤ i → map g (drop i xs) ≡ []
map_over g xs i h = ap (map g) (drop_all i xs h)

-- the elements being numbered
pub text_more : {X Y : Type 0} (f : ℕ → Y → List ℕ) (g : X → Y) (xs : List X) (start i n : ℕ) (x d : X) (cur new total : List ℕ) → i < length xs → x ≡ get_or xs i d → n ≡ start + i →
    cur ++ numbered_text f (start + i) (map g (drop i xs)) ≡ total → new ≡ cur ++ f n (g x) → new ++ numbered_text f (start + (i + 1)) (map g (drop (i + 1) xs)) ≡ total
text_more f g xs start i n x d cur new total h is number e made =
    let next : start + i + 1 ≡ start + (i + 1) = omega arith in
    let split = ap (λ l. cur ++ numbered_text f (start + i) l) (sym (map_here g xs i x d h is)) ∙ e in
    ap (λ k. new ++ numbered_text f k (map g (drop (i + 1) xs))) (sym next)
    ∙ piece_more cur new (f (start + i) (g x)) (numbered_text f (start + i + 1) (map g (drop (i + 1) xs))) total split (made ∙ ap (λ k. cur ++ f k (g x)) number)

pub text_end : {X Y : Type 0} (f : ℕ → Y → List ℕ) (g : X → Y) (xs : List X) (n i : ℕ) (cur total : List ℕ) → length xs ≤ i → cur ++ numbered_text f n (map g (drop i xs)) ≡ total → cur ≡ total
text_end f g xs n i cur total h e = sym (append-nil cur) ∙ (ap (λ l. cur ++ numbered_text f n l) (sym (map_over g xs i h)) ∙ e)

-- and not numbered
pub flat_more : {X Y : Type 0} (f : Y → List ℕ) (g : X → Y) (xs : List X) (i : ℕ) (x d : X) (cur new total : List ℕ) → i < length xs → x ≡ get_or xs i d →
    cur ++ flat_map f (map g (drop i xs)) ≡ total → new ≡ cur ++ f (g x) → new ++ flat_map f (map g (drop (i + 1) xs)) ≡ total
flat_more f g xs i x d cur new total h is e made =
    piece_more cur new (f (g x)) (flat_map f (map g (drop (i + 1) xs))) total (ap (λ l. cur ++ flat_map f l) (sym (map_here g xs i x d h is)) ∙ e) made

pub flat_end : {X Y : Type 0} (f : Y → List ℕ) (g : X → Y) (xs : List X) (i : ℕ) (cur total : List ℕ) → length xs ≤ i → cur ++ flat_map f (map g (drop i xs)) ≡ total → cur ≡ total
flat_end f g xs i cur total h e = sym (append-nil cur) ∙ (ap (λ l. cur ++ flat_map f l) (sym (map_over g xs i h)) ∙ e)

-- an object more
pub object_more : (f : NumberedObject → List ℕ) (os : List ObjectValue) (i first n : ℕ) (o : ObjectValue) (cur new total : List ℕ) → i < length os → o ≡ get_or os i o → n ≡ length o.sections →
    cur ++ flat_map f (numbered_objects_from i first (drop i os)) ≡ total → new ≡ cur ++ f (record { number = i; first = first; object = o }) →
    new ++ flat_map f (numbered_objects_from (i + 1) (first + n) (drop (i + 1) os)) ≡ total
object_more f os i first n o cur new total h is same e made =
    ap (λ k. new ++ flat_map f (numbered_objects_from (i + 1) (first + k) (drop (i + 1) os))) same
    ∙ piece_more cur new (f (record { number = i; first = first; object = o })) (flat_map f (numbered_objects_from (i + 1) (first + length o.sections) (drop (i + 1) os))) total
    (ap (λ l. cur ++ flat_map f l) (sym (numbered_step os i first o h is)) ∙ e) made

pub object_end : (f : NumberedObject → List ℕ) (os : List ObjectValue) (i j first : ℕ) (cur total : List ℕ) → length os ≤ i → cur ++ flat_map f (numbered_objects_from j first (drop i os)) ≡ total → cur ≡ total
object_end f os i j first cur total h e = sym (append-nil cur) ∙ (ap (λ l. cur ++ flat_map f l) (sym (numbered_over os i j first h)) ∙ e)

-- eight pieces
pub eight : (a b c d e f g h t1 t2 t3 t4 t5 t6 t7 t8 : List ℕ) → t1 ≡ a → t2 ≡ t1 ++ b → t3 ≡ t2 ++ c → t4 ≡ t3 ++ d → t5 ≡ t4 ++ e → t6 ≡ t5 ++ f → t7 ≡ t6 ++ g → t8 ≡ t7 ++ h →
    t8 ≡ a ++ (b ++ (c ++ (d ++ (e ++ (f ++ (g ++ h))))))
eight a b c d e f g h t1 t2 t3 t4 t5 t6 t7 t8 p1 p2 p3 p4 p5 p6 p7 p8 =
    p8 ∙ (ap (λ l. l ++ h) (p7 ∙ (ap (λ l. l ++ g) (p6 ∙ (ap (λ l. l ++ f) (p5 ∙ (ap (λ l. l ++ e) (p4 ∙ (ap (λ l. l ++ d) (p3 ∙ (ap (λ l. l ++ c) (p2 ∙ ap (λ l. l ++ b) p1)))))))))))
    ∙ simp append_assoc refl)

-- ---- the modules in rising boot

one_first : {X : Type 0} (p : X → Bool) (x : X) (xs : List X) (b : Bool) → p x ≡ b → filter p (x ∷ xs) ≡ filter p (x ∷ []) ++ filter p xs
one_first p x xs true e = rw e refl
one_first p x xs false e = rw e refl

pub booted_more : {X : Type 0} (value : X → PlacedModule) (old new : List X) (modules : List ModuleSpec) (boot i : ℕ) (m : ModuleSpec) (total : List PlacedModule) → i < length modules → m ≡ get_or modules i m →
    map value old ++ filter (has_boot boot) (map_at placed_module i (map module_value (drop i modules))) ≡ total →
    map value new ≡ map value old ++ filter (has_boot boot) (placed_module i (module_value m) ∷ []) →
    map value new ++ filter (has_boot boot) (map_at placed_module (i + 1) (map module_value (drop (i + 1) modules))) ≡ total
booted_more value old new modules boot i m total h is e made =
    let rest = map_at placed_module (i + 1) (map module_value (drop (i + 1) modules)) in
    let first = filter (has_boot boot) (placed_module i (module_value m) ∷ []) in
    ap (λ l. l ++ filter (has_boot boot) rest) made ∙ (append_assoc (map value old) first (filter (has_boot boot) rest)
    ∙ (ap (λ l. map value old ++ l) (sym (one_first (has_boot boot) (placed_module i (module_value m)) rest (has_boot boot (placed_module i (module_value m))) refl))
    ∙ (ap (λ l. map value old ++ filter (has_boot boot) (map_at placed_module i l)) (sym (map_here module_value modules i m m h is)) ∙ e)))

pub booted_end : {X : Type 0} (value : X → PlacedModule) (old : List X) (modules : List ModuleSpec) (boot i j : ℕ) (total : List PlacedModule) → length modules ≤ i →
    map value old ++ filter (has_boot boot) (map_at placed_module j (map module_value (drop i modules))) ≡ total → map value old ≡ total
booted_end value old modules boot i j total h e = sym (append-nil (map value old)) ∙ (ap (λ l. map value old ++ filter (has_boot boot) (map_at placed_module j l)) (sym (map_over module_value modules i h)) ∙ e)

range_more : (a n : ℕ) → range_with_len a (suc n) ≡ range_with_len a n ++ (a + n) ∷ []
range_more a zero = ap (λ (k : ℕ). k ∷ []) (omega arith)
range_more a (suc n) =
    let e : (a + 1) + n ≡ a + suc n = omega arith in
    ap (λ l. a ∷ l) (range_more (a + 1) n ∙ ap (λ (k : ℕ). range_with_len (a + 1) n ++ k ∷ []) e)

flat_one : {X A : Type 0} (f : X → List A) (xs : List X) (x : X) → flat_map f (xs ++ x ∷ []) ≡ flat_map f xs ++ f x
flat_one f xs x = sym (flat_map_more f [] xs x)

pub boots_more : {X A : Type 0} (value : X → A) (f : ℕ → List A) (old new : List X) (n : ℕ) → map value old ≡ flat_map f (range_with_len 1 n) → map value new ≡ map value old ++ f (n + 1) →
    map value new ≡ flat_map f (range_with_len 1 (n + 1))
boots_more value f old new n e made =
    let next : 1 + n ≡ n + 1 = omega arith in
    let more : suc n ≡ n + 1 = omega arith in
    made ∙ (ap (λ l. l ++ f (n + 1)) e ∙ (sym (flat_one f (range_with_len 1 n) (n + 1)) ∙ (ap (λ k. flat_map f (range_with_len 1 n ++ k ∷ [])) (sym next) ∙ (ap (flat_map f) (sym (range_more 1 n)) ∙ ap (λ k. flat_map f (range_with_len 1 k)) more))))

-- ---- the parts in rising address

inserted_by : (p q : PartValue) (qs : List PartValue) (b : Bool) → nat_lt p.at q.at ≡ b → insert_part p qs ≡ insert qs (insertion_place qs p.at) p →
    insert_part p (q ∷ qs) ≡ insert (q ∷ qs) (insertion_place (q ∷ qs) p.at) p
inserted_by p q qs true e ih = rw e refl
inserted_by p q qs false e ih = rw e (ap (λ l. q ∷ l) ih)

pub inserted : (p : PartValue) (xs : List PartValue) → insert_part p xs ≡ insert xs (insertion_place xs p.at) p
inserted p [] = refl
inserted p (q ∷ qs) = inserted_by p q qs (nat_lt p.at q.at) refl (inserted p qs)

under : (a b : ℕ) → a < b → nat_lt a b ≡ true
under a b h = grind (arith, nat_tests)

over : (a b : ℕ) → b ≤ a → nat_lt a b ≡ false
over a b h = grind (arith, nat_tests)

pub place_here : {X : Type 0} (value : X → PartValue) (xs : List X) (i at total : ℕ) (x d : X) → i < length xs → x ≡ get_or xs i d → at < (value x).at →
    total ≡ i + insertion_place (map value (drop i xs)) at → i ≡ total
place_here value xs i at total x d h is low e =
    let z : insertion_place (map value (drop i xs)) at ≡ 0 = ap (λ l. insertion_place l at) (map_here value xs i x d h is) ∙ rw (under at (value x).at low) refl in
    omega (arith, e, z)

pub place_next : {X : Type 0} (value : X → PartValue) (xs : List X) (i at total : ℕ) (x d : X) → i < length xs → x ≡ get_or xs i d → (value x).at ≤ at →
    total ≡ i + insertion_place (map value (drop i xs)) at → total ≡ i + 1 + insertion_place (map value (drop (i + 1) xs)) at
place_next value xs i at total x d h is high e =
    let z : insertion_place (map value (drop i xs)) at ≡ suc (insertion_place (map value (drop (i + 1) xs)) at) = ap (λ l. insertion_place l at) (map_here value xs i x d h is) ∙ rw (over at (value x).at high) refl in
    omega (arith, e, z)

pub place_end : {X : Type 0} (value : X → PartValue) (xs : List X) (i at total : ℕ) → i ≡ length xs → total ≡ i + insertion_place (map value (drop i xs)) at → i ≡ total
place_end value xs i at total h e =
    let z : insertion_place (map value (drop i xs)) at ≡ 0 = ap (λ l. insertion_place l at) (map_over value xs i (omega arith)) in
    omega (arith, e, z)

map_insert : {X Y : Type 0} (f : X → Y) (xs : List X) (i : ℕ) (x : X) → map f (insert xs i x) ≡ insert (map f xs) i (f x)
map_insert f [] zero x = refl
map_insert f [] (suc i) x = refl
map_insert f (y ∷ ys) zero x = refl
map_insert f (y ∷ ys) (suc i) x = ap (λ l. f y ∷ l) (map_insert f ys i x)

pub part_inserted : {X : Type 0} (value : X → PartValue) (old new : List X) (x : X) (i : ℕ) → new ≡ insert old i x → i ≡ insertion_place (map value old) (value x).at →
    map value new ≡ insert_part (value x) (map value old)
part_inserted value old new x i made is =
    ap (map value) made ∙ (map_insert value old i x ∙ (ap (λ k. insert (map value old) k (value x)) is ∙ sym (inserted (value x) (map value old))))

-- ---- the numbers of an object's symbols

first_of : {A : Type 0} (vs : List A) (i : ℕ) (x : A) (rest : List A) (d : A) → drop i vs ≡ x ∷ rest → (i < length vs) × (get_or vs i d ≡ x) × (drop (i + 1) vs ≡ rest)
first_of [] zero x rest d e = cc
first_of [] (suc i) x rest d e = cc
first_of (v ∷ vs) zero x rest d e = (omega arith, cc, cc)
first_of {A} (v ∷ vs) (suc i) x rest d e =
    let r = first_of vs i x rest d e in
    let n : suc (i + 1) ≡ suc i + 1 = omega arith in
    (omega (arith, r.0), r.1, subst (λ (k : ℕ). drop k (v ∷ vs) ≡ rest) n r.2)

numbers_split : (l : Linking) (numbers : List (List ℕ)) (os : List ObjectValue) (i first : ℕ) (o : ObjectValue) → i < length os → o ≡ get_or os i o →
    drop i numbers ≡ map (numbers_in l) (numbered_objects_from i first (drop i os)) →
    (i < length numbers) × (get_or numbers i [] ≡ numbers_in l (record { number = i; first = first; object = o }))
    × (drop (i + 1) numbers ≡ map (numbers_in l) (numbered_objects_from (i + 1) (first + length o.sections) (drop (i + 1) os)))
numbers_split l numbers os i first o h is e = first_of numbers i _ _ [] (e ∙ ap (map (numbers_in l)) (numbered_step os i first o h is))

pub numbers_here : (l : Linking) (numbers : List (List ℕ)) (os : List ObjectValue) (i first : ℕ) (o : ObjectValue) → i < length os → o ≡ get_or os i o →
    drop i numbers ≡ map (numbers_in l) (numbered_objects_from i first (drop i os)) →
    (i < length numbers) × (get_or numbers i [] ≡ numbers_in l (record { number = i; first = first; object = o }))
numbers_here l numbers os i first o h is e = let r = numbers_split l numbers os i first o h is e in (r.0, r.1)

pub numbers_next : (l : Linking) (numbers : List (List ℕ)) (os : List ObjectValue) (i first n : ℕ) (o : ObjectValue) → i < length os → o ≡ get_or os i o → n ≡ length o.sections →
    drop i numbers ≡ map (numbers_in l) (numbered_objects_from i first (drop i os)) →
    drop (i + 1) numbers ≡ map (numbers_in l) (numbered_objects_from (i + 1) (first + n) (drop (i + 1) os))
numbers_next l numbers os i first n o h is same e =
    (numbers_split l numbers os i first o h is e).2 ∙ ap (λ k. map (numbers_in l) (numbered_objects_from (i + 1) (first + k) (drop (i + 1) os))) (sym same)

-- ---- elements that are numbered, and not copied

pub list_more : {X : Type 0} (f : ℕ → X → List ℕ) (xs : List X) (i : ℕ) (s : X) (cur new total : List ℕ) → i < length xs → s ≡ get_or xs i s →
    cur ++ numbered_text f i (drop i xs) ≡ total → new ≡ cur ++ f i s → new ++ numbered_text f (i + 1) (drop (i + 1) xs) ≡ total
list_more f xs i s cur new total h is e made =
    piece_more cur new (f i s) (numbered_text f (i + 1) (drop (i + 1) xs)) total (ap (λ l. cur ++ numbered_text f i l) (sym (here xs i s s h is)) ∙ e) made

pub list_end : {X : Type 0} (f : ℕ → X → List ℕ) (xs : List X) (i j : ℕ) (cur total : List ℕ) → length xs ≤ i → cur ++ numbered_text f j (drop i xs) ≡ total → cur ≡ total
list_end f xs i j cur total h e = sym (append-nil cur) ∙ (ap (λ l. cur ++ numbered_text f j l) (sym (drop_all i xs h)) ∙ e)

-- ---- the commons

common_of : (commons : List Common) (k : ℕ) (n : List ℕ) → slice_get (map common_name commons) k ≡ Some n → (c : Common) × ((slice_get commons k ≡ Some c) × (c.name ≡ n))
common_of [] k n e = cc
common_of (c ∷ cs) zero n e = (c, (refl, same_Some c.name n e))
common_of (c ∷ cs) (suc k) n e = common_of cs k n e

behind : (front rest : List Item) (k : ℕ) → slice_get (front ++ rest) (length front + k) ≡ slice_get rest k
behind [] rest k = let z : 0 + k ≡ k = omega arith in ap (slice_get rest) z
behind (x ∷ xs) rest k = let z : length (x ∷ xs) + k ≡ suc (length xs + k) = omega arith in ap (slice_get (x ∷ (xs ++ rest))) z ∙ behind xs rest k

pub linked_commons : (layout : LayoutValue) (os : List ObjectValue) (names : List (List ℕ)) (items : List Item) (first : ℕ) → names ≡ common_names os → items ≡ items_of layout os → first ≡ count_sections os →
    HasCommons names items first (commons_of (named_symbols os))
linked_commons layout os names items first named placed count = record { named = named; front = section_items layout.modules os; count = count ∙ sym (count_items layout.modules os); placed = placed }

pub commons_count : (names : List (Bor (List ℕ))) (items : List Item) (first : ℕ) (commons : List Common) → HasCommons (borrowed names) items first commons → length commons ≡ length names
commons_count names items first commons h = sym (length-map commons common_name) ∙ (sym (ap length h.named) ∙ length-map names (λ (n : Bor (List ℕ)). n.now))

pub item_within : (names : List (Bor (List ℕ))) (items : List Item) (first k : ℕ) (commons : List Common) → HasCommons (borrowed names) items first commons → k < length names → first + k < length items
item_within names items first k commons h l =
    omega (arith, l, h.count, commons_count names items first commons h, ap length h.placed, length-append h.front (map common_item commons), length-map commons common_item)

pub commons_more : (address : ℕ → ℕ) (names : List (Bor (List ℕ))) (items : List Item) (first k at : ℕ) (commons : List Common) (n : Bor (List ℕ)) (i : Item) (cur new total : List ℕ) → HasCommons (borrowed names) items first commons → slice_get names k ≡ Some n → slice_get items (first + k) ≡ Some i → at ≡ address (first + k) →
    cur ++ numbered_text (common_line address first) k (drop k commons) ≡ total → new ≡ cur ++ common_text at i.size n.now → new ++ numbered_text (common_line address first) (k + 1) (drop (k + 1) commons) ≡ total
commons_more address names items first k at commons n i cur new total h e f stands before made =
    let x = common_of commons k n.now (ap (λ l. slice_get l k) (sym h.named) ∙ (slice_get-map (λ (m : Bor (List ℕ)). m.now) names k ∙ ap (option_map (λ (m : Bor (List ℕ)). m.now)) e)) in
    let c = x.0 in
    let its : slice_get items (first + k) ≡ Some (common_item c) = ap (λ l. slice_get l (first + k)) h.placed
    ∙ (ap (λ (m : ℕ). slice_get (h.front ++ map common_item commons) (m + k)) h.count
    ∙ (behind h.front (map common_item commons) k ∙ (slice_get-map common_item commons k ∙ ap (option_map common_item) x.1.0))) in
    list_more (common_line address first) commons k c cur new total (slice_get_within commons k c x.1.0) (sym (get_or_from_slice_get commons k c c x.1.0)) before
    (made ∙ (ap (λ (a : ℕ). cur ++ common_text a i.size n.now) stands
    ∙ (ap (λ (j : Item). cur ++ common_text (address (first + k)) j.size n.now) (same_Some i (common_item c) (sym f ∙ its))
    ∙ ap (λ (m : List ℕ). cur ++ common_text (address (first + k)) c.size m) (sym x.1.1))))

-- ---- the symbols of an object

number_at : {X : Type 0} (f : ℕ → X → ℕ) (xs : List X) (i start : ℕ) (x : X) → i < length xs → x ≡ get_or xs i x → get_or (map_at f start xs) i 0 ≡ f (start + i) x
number_at f [] i start x h is = absurd (omega arith)
number_at f (y ∷ ys) zero start x h is = let n : start ≡ start + 0 = omega arith in ap (f start) (sym is) ∙ ap (λ k. f k x) n
number_at f (y ∷ ys) (suc i) start x h is = let n : start + 1 + i ≡ start + suc i = omega arith in number_at f ys i (start + 1) x (omega arith) is ∙ ap (λ k. f k x) n

-- what the numbers have for a symbol
pub own_number : (l : Linking) (x : NumberedObject) (numbers : List ℕ) (i n : ℕ) (s : Symbol) → numbers ≡ numbers_in l x → i < length x.object.symbols → s ≡ get_or x.object.symbols i s →
    i < length numbers → n ≡ get_or numbers i n → n ≡ linked_number l x i s
own_number l x numbers i n s e h is within read =
    let zero_first : 0 + i ≡ i = omega arith in
    let n0 : n ≡ get_or numbers i 0 = read ∙ get_or_default numbers i n 0 within in
    n0 ∙ (ap (λ (ns : List ℕ). get_or ns i 0) e ∙ (number_at (linked_number l x) x.object.symbols i 0 s h is ∙ ap (λ k. linked_number l x k s) zero_first))

numbered_count : (os : List ObjectValue) (i first : ℕ) → length (numbered_objects_from i first os) ≡ length os
numbered_count [] i first = refl
numbered_count (o ∷ os) i first = ap suc (numbered_count os (i + 1) (first + length o.sections))

-- there are as many lists of numbers as objects
pub lists_count : (l : Linking) (numbers : List (Vec ℕ Global)) (os : List ObjectValue) → listed_numbers numbers ≡ map (numbers_in l) (numbered_objects_from 0 0 os) → length numbers ≡ length os
lists_count l numbers os e = sym (length-map numbers numbers_in_list) ∙ (ap length e ∙ (length-map (numbered_objects_from 0 0 os) (numbers_in l) ∙ numbered_count os 0 0))

pub symbols_count : (l : Linking) (x : NumberedObject) (numbers : List ℕ) → numbers ≡ numbers_in l x → length numbers ≡ length x.object.symbols
symbols_count l x numbers e = ap length e ∙ length_at (linked_number l x) 0 x.object.symbols

pub listed_at : (numbers : List (Vec ℕ Global)) (i : ℕ) (v : Vec ℕ Global) → i < length numbers → v ≡ get_or numbers i v → get_or (listed_numbers numbers) i [] ≡ v.items
listed_at [] i v h is = absurd (omega arith)
listed_at (w ∷ ws) zero v h is = ap numbers_in_list (sym is)
listed_at (w ∷ ws) (suc i) v h is = listed_at ws i v (omega arith) is

-- the same where what is read is the element itself
pub text_read : {X Y : Type 0} (f : ℕ → Y → List ℕ) (g : X → Y) (xs : List X) (start i n : ℕ) (d : X) (cur new total : List ℕ) → i < length xs → n ≡ start + i →
    cur ++ numbered_text f (start + i) (map g (drop i xs)) ≡ total → new ≡ cur ++ f n (g (get_or xs i d)) → new ++ numbered_text f (start + (i + 1)) (map g (drop (i + 1) xs)) ≡ total
text_read f g xs start i n d cur new total h number e made = text_more f g xs start i n (get_or xs i d) d cur new total h refl number e made

pub flat_read : {X Y : Type 0} (f : Y → List ℕ) (g : X → Y) (xs : List X) (i : ℕ) (d : X) (cur new total : List ℕ) → i < length xs →
    cur ++ flat_map f (map g (drop i xs)) ≡ total → new ≡ cur ++ f (g (get_or xs i d)) → new ++ flat_map f (map g (drop (i + 1) xs)) ≡ total
flat_read f g xs i d cur new total h e made = flat_more f g xs i (get_or xs i d) d cur new total h refl e made

-- a word of a line
pub word_read : {X : Type 0} (g : X → List ℕ) (xs : List X) (i : ℕ) (d : X) (cur a new total : List ℕ) → i < length xs →
    cur ++ after_blanks (map g (drop i xs)) ≡ total → a ≡ cur ++ codes " " → new ≡ a ++ g (get_or xs i d) → new ++ after_blanks (map g (drop (i + 1) xs)) ≡ total
word_read g xs i d cur a new total h e blank made =
    word_more cur a new (codes " ") (g (get_or xs i d)) (after_blanks (map g (drop (i + 1) xs))) total
    (ap (λ l. cur ++ after_blanks l) (sym (map_here g xs i (get_or xs i d) d h refl)) ∙ e) blank made

pub place_next_read : {X : Type 0} (value : X → PartValue) (xs : List X) (i at total : ℕ) (d : X) → i < length xs → (value (get_or xs i d)).at ≤ at →
    total ≡ i + insertion_place (map value (drop i xs)) at → total ≡ i + 1 + insertion_place (map value (drop (i + 1) xs)) at
place_next_read value xs i at total d h high e = place_next value xs i at total (get_or xs i d) d h refl high e

pub place_here_read : {X : Type 0} (value : X → PartValue) (xs : List X) (i at total : ℕ) (d : X) → i < length xs → at < (value (get_or xs i d)).at →
    total ≡ i + insertion_place (map value (drop i xs)) at → i ≡ total
place_here_read value xs i at total d h low e = place_here value xs i at total (get_or xs i d) d h refl low e

-- a line for a symbol, whose number was read
pub symbol_read : (l : Linking) (table : Table) (x : NumberedObject) (numbers : List ℕ) (xs : List Symbol) (i : ℕ) (d : Symbol) (cur new total : List ℕ) → numbers ≡ numbers_in l x → xs ≡ x.object.symbols → i < length xs →
    cur ++ numbered_text (symbol_line l table x) i (drop i x.object.symbols) ≡ total →
    new ≡ cur ++ symbol_text_if (is_shown x.object i (get_or xs i d)) (symbol_text table (get_or numbers i 0) (get_or xs i d).binding x.number (part x.object (get_or xs i d).name)) →
    new ++ numbered_text (symbol_line l table x) (i + 1) (drop (i + 1) x.object.symbols) ≡ total
symbol_read l table x numbers xs i d cur new total e exs h inv made =
    let s : Symbol = get_or xs i d in
    let f = symbol_line l table x in
    let rest = numbered_text f (i + 1) (drop (i + 1) x.object.symbols) in
    let hs : i < length x.object.symbols = omega (arith, ap length exs) in
    let is : s ≡ get_or x.object.symbols i d = ap (λ (ys : List Symbol). get_or ys i d) exs in
    let own : s ≡ get_or x.object.symbols i s = is ∙ get_or_default x.object.symbols i d s hs in
    let zero_first : 0 + i ≡ i = omega arith in
    let n : get_or numbers i 0 ≡ linked_number l x i s =
    ap (λ (ns : List ℕ). get_or ns i 0) e ∙ (number_at (linked_number l x) x.object.symbols i 0 s hs own ∙ ap (λ k. linked_number l x k s) zero_first) in
    let whole : new ≡ cur ++ f i s = made ∙ ap (λ k. cur ++ symbol_text_if (is_shown x.object i s) (symbol_text table k s.binding x.number (part x.object s.name))) n in
    piece_more cur new (f i s) rest total (ap (λ (ys : List Symbol). cur ++ numbered_text f i ys) (sym (here x.object.symbols i s d hs is)) ∙ inv) whole

-- the numbers of an object, where they were read
pub own_list : (l : Linking) (numbers : List (Vec ℕ Global)) (os : List ObjectValue) (i first : ℕ) (o : ObjectValue) (v : Vec ℕ Global) → i < length os → o ≡ get_or os i o →
    listed_numbers numbers ≡ map (numbers_in l) (numbered_objects_from 0 0 os) → v ≡ get_or numbers i v →
    drop i (listed_numbers numbers) ≡ map (numbers_in l) (numbered_objects_from i first (drop i os)) → v.items ≡ numbers_in l (record { number = i; first = first; object = o })
own_list l numbers os i first o v h is all read e =
    let within : i < length numbers = omega (arith, lists_count l numbers os all) in
    sym (listed_at numbers i v within read) ∙ (numbers_here l (listed_numbers numbers) os i first o h is e).1
