-- What the definition gives keeps the facts of a layout.
use Rattle.std.proofs.Common.{◌≡◌, ◌≢◌, ◌⊎◌, inl, inr, ℕ, zero, suc, ℤ, pos, negsuc, ◌+◌, ◌%◌, ◌<◌, ◌≤◌, ◌==◌, nat_le, Bool, true, false, ◌||◌, not, List, [], ◌∷◌, ◌++◌, length, get_or, Option, Some, None, Result, Ok, Err, refl, ap, sym, ◌∙◌, subst, arith}
use Rattle.std.specs.Prelude.{if◌then◌else◌, IsTrue, IfOk, All, AllPairs}
use Rattle.std.specs.List.{AllPass}
use Rattle.std.specs.Result.{result_ok}
use Rattle.std.specs.Str.{bytes_eq, is_utf8}
use Rattle.std.proofs.lemmas.Bool.{and_parts, or_cases, leb-true, eqb-true, eqb-false}
use Rattle.std.proofs.lemmas.Slice.Eq.{bytes_eq-Decides}
use Rattle.std.proofs.lemmas.List.{get_or-map}
use Rattle.std.proofs.lemmas.List.Elements.{All-nil, All-cons, All-weaker}
use Rattle.std.proofs.lemmas.List.Sums.{AllPass-from_list_all}
use Rattle.std.proofs.lemmas.List.Kept.{AllPairs-cons}
use Rattle.hex.specs.Hex.{decode_sized}
use Rattle.hex.specs.declared.error.FromHexError.{FromHexError}
use Rattle.hex.proofs.HexLemmas.{decode_sized-ok, decode_sized-twice, decode_of-ok}
use Rattle.toml.specs.Data.{Data, Members, get_member, as_integer, as_str, as_array}
use Rattle.toml.specs.Parse.{parse_document}
use Rattle.layout_file.specs.Checked.{Checked, ◌>>=◌, map_ok, gather, one}
use Rattle.layout_file.specs.Rows.{is_within, in_bounds, in_order, of_kind, needed, is_layout_name_byte}
use Rattle.layout_file.specs.Rows as rows
use Rattle.mod_layout.specs.Table.{share_byte}
use Rattle.layout_file.specs.Clashes.{first_clash}
use Rattle.layout_file.specs.Overlaps.{ShareNoByte}
use Rattle.layout_file.proofs.ClashLemmas.{AllPairs-first_clash, AllPairs-weaker, ShareNoByte-share_byte}
use Rattle.layout_file.specs.Layout as layout
use Rattle.layout_file.specs.Layout.{LayoutOf}
use Rattle.layout_file.specs.Values.{VectorValue, ModuleValue, LayoutValue, regions, module_names, boots_of}
use Rattle.layout_file.specs.Sound.{IsRegion, AreVectors, IsModuleValue, IsLayout}
use Rattle.layout_file.specs.declared.fault.Spot.{Spot}
use Rattle.layout_file.specs.declared.fault.LayoutFault.{LayoutFault}
use Rattle.layout_file.specs.declared.fault.LayoutFault.TheVariants.{OutOfRange, TooMany, Utf8OrToml, Overlap, SameName, SameBoot}
use Rattle.layout_file.specs.declared.fault.Key.TheVariants.{Version, Key, HandlerSp, Text, Data as DataKey, Vectors, Module, Name, Vendor, Stack, Entries, Boot}
use Rattle.mod_layout.specs.declared.Section.{Section}
use Rattle.layout_file.specs.declared.rows.Bounds.{Bounds}

-- ---- what an `Ok` says of the steps that gave it

pub bind-ok : {A B : Type 0} (r : Checked A) (f : A → Checked B) (b : B) → (r >>= f) ≡ Ok b → (a : A) × (r ≡ Ok a) × (f a ≡ Ok b)
bind-ok (Ok a) f b h = (a, refl, h)
bind-ok (Err e) f b h = absurd (cc)

ok_same : {A : Type 0} (a b : A) → ◌≡◌ {A = Checked A} (Ok a) (Ok b) → a ≡ b
ok_same a b h = cc

pub map_ok-ok : {A B : Type 0} (f : A → B) (r : Checked A) (b : B) → map_ok f r ≡ Ok b → (a : A) × (r ≡ Ok a) × (f a ≡ b)
map_ok-ok f (Ok a) b h = (a, refl, cc)
map_ok-ok f (Err e) b h = absurd (cc)

-- ---- integers and regions

pub record Within (b : Bounds) (n : ℕ) : Type 0 where
  pub least : b.least ≤ n
  pub most : n ≤ b.most
  pub even : b.even ≡ true → n % 2 ≡ 0

Within-fits : (b : Bounds) (n : ℕ) → is_within b n ≡ true → Within b n
Within-fits b n h =
    let parts = and_parts _ _ h in
    let ends = and_parts _ _ parts.0 in
    record {
      least = leb-true _ _ ends.0;
      most = leb-true _ _ ends.1;
      even = λ e. elim (or_cases _ _ parts.1) [
        | inl odd ↦ absurd (not_both b.even e odd)
        | inr even ↦ eqb-true _ _ even
      ];
    }
  where
    not_both : (c : Bool) → c ≡ true → not c ≡ true → ⊥
    not_both true e odd = absurd (cc)
    not_both false e odd = absurd (cc)

Within-in_bounds : (spot : Spot) (b : Bounds) (z : ℤ) (n : ℕ) → in_bounds spot b z ≡ Ok n → Within b n
Within-in_bounds spot b (pos m) n h = by (is_within b m) refl h
  where
    by : (c : Bool) → is_within b m ≡ c → (if c then Ok m else Err (OutOfRange spot (pos m))) ≡ Ok n → Within b n
    by true e h = let same : m ≡ n = cc in subst (Within b) same (Within-fits b m e)
    by false e h = absurd (cc)
Within-in_bounds spot b (negsuc m) n h = absurd (cc)

pub Within-integer : (spot : Spot) (b : Bounds) (table : Members) (n : ℕ) → rows.integer spot b table ≡ Ok n → Within b n
Within-integer spot b table n h =
    let value = bind-ok (needed spot table) _ n h in
    let number = bind-ok (of_kind spot (as_integer value.0)) _ n value.2 in
    Within-in_bounds spot b number.0 n number.2

in_order-ok : (spot : Spot) (start end : ℕ) (s : Section) → in_order spot start end ≡ Ok s → (start ≤ end) × (record { start = start; end = end } ≡ s)
in_order-ok spot start end s h = by (nat_le start end) refl h
  where
    by : (c : Bool) → nat_le start end ≡ c → (if c then Ok (record { start = start; end = end }) else Err (OutOfRange spot (pos end))) ≡ Ok s
        → (start ≤ end) × (record { start = start; end = end } ≡ s)
    by true e h = (leb-true _ _ e, cc)
    by false e h = absurd (cc)

pub IsRegion-section : (spot : Spot) (table : Members) (s : Section) → rows.section_member spot layout.region table ≡ Ok s → IsRegion s
IsRegion-section spot table s h =
    let value = bind-ok (needed spot table) _ s h in
    let pair = bind-ok (of_kind spot (rows.as_pair value.0)) _ s value.2 in
    let start = bind-ok (in_bounds spot layout.region pair.0.0) _ s pair.2 in
    let end = bind-ok (in_bounds spot layout.region pair.0.1) _ s start.2 in
    let ends = in_order-ok spot start.0 end.0 s end.2 in
    let low = Within-in_bounds spot layout.region pair.0.0 start.0 start.1 in
    let high = Within-in_bounds spot layout.region pair.0.1 end.0 end.1 in
    subst IsRegion ends.1 (record {
      even_start = low.even refl;
      even_end = high.even refl;
      above_devices = low.least;
      in_order = ends.0;
      below_vectors = high.most;
    })

-- ---- the key

decoded-ok : (r : Result (List ℕ) FromHexError) (bytes : List ℕ) → result_ok r ≡ Some bytes → r ≡ Ok bytes
decoded-ok (Ok a) bytes h = let same : a ≡ bytes = cc in ap Ok same
decoded-ok (Err e) bytes h = absurd (cc)

of_kind-ok : {A : Type 0} (spot : Spot) (o : Option A) (a : A) → of_kind spot o ≡ Ok a → o ≡ Some a
of_kind-ok spot None a h = absurd (cc)
of_kind-ok spot (Some b) a h = let same : b ≡ a = cc in ap Some same

length-decode_sized : (s : List ℕ) (n : ℕ) (bytes : List ℕ) → decode_sized s n ≡ Ok bytes → length bytes ≡ n
length-decode_sized s n bytes h =
    let long = decode_sized-ok s n bytes h in
    omega (arith, long, (decode_of-ok s bytes (sym (decode_sized-twice s n long) ∙ h)).2)

pub length-hex_key : (spot : Spot) (table : Members) (key : List ℕ) → rows.key_member spot table ≡ Ok key → length key ≡ 16
length-hex_key spot table key h =
    let value = bind-ok (needed spot table) _ key h in
    let text = bind-ok (of_kind spot (as_str value.0)) _ key value.2 in
    length-decode_sized text.0 16 key (decoded-ok _ key (of_kind-ok spot _ key text.2))

-- ---- names and entries

pub record IsName (s : List ℕ) : Type 0 where
  pub some : 1 ≤ length s
  pub short : length s ≤ 32
  pub bytes : AllPass is_layout_name_byte s

name_of-ok : (s t : List ℕ) → rows.layout_name 32 s ≡ Some t → IsName t
name_of-ok s t h = by (rows.is_layout_name 32 s) refl h
  where
    by : (c : Bool) → rows.is_layout_name 32 s ≡ c → (if c then Some s else None) ≡ Some t → IsName t
    by true e h =
        let same : s ≡ t = cc in
        let parts = and_parts _ _ e in
        let rest = and_parts _ _ parts.1 in
        subst IsName same record { some = leb-true _ _ parts.0; short = leb-true _ _ rest.0; bytes = AllPass-from_list_all _ s rest.1 }
    by false e h = absurd (cc)

pub IsName-name : (spot : Spot) (table : Members) (s : List ℕ) → rows.name spot 32 table ≡ Ok s → IsName s
IsName-name spot table s h =
    let value = bind-ok (needed spot table) _ s h in
    let text = bind-ok (of_kind spot (as_str value.0)) _ s value.2 in
    name_of-ok text.0 s (of_kind-ok spot _ s text.2)

length-at_most : {A : Type 0} (spot : Spot) (most : ℕ) (xs ys : List A) → rows.at_most spot most xs ≡ Ok ys → length ys ≤ most
length-at_most spot most xs ys h = by (nat_le (length xs) most) refl h
  where
    by : (c : Bool) → nat_le (length xs) most ≡ c → (if c then Ok xs else Err (TooMany spot)) ≡ Ok ys → length ys ≤ most
    by true e h = let same : xs ≡ ys = cc in rw (← same) (leb-true _ _ e)
    by false e h = absurd (cc)

at_least_one-ok : {A : Type 0} (spot : Spot) (xs ys : List A) → rows.at_least_one spot xs ≡ Ok ys → (xs ≡ ys) × (1 ≤ length ys)
at_least_one-ok spot [] ys h = absurd (cc)
at_least_one-ok spot (x ∷ xs) ys h = let same : x ∷ xs ≡ ys = cc in (same, rw (← same) (omega arith))

pub length-entries : (spot : Spot) (table : Members) (names : List (List ℕ)) → rows.entries spot 64 table ≡ Ok names
    → (1 ≤ length names) × (length names ≤ 64)
length-entries spot table names h =
    let value = bind-ok (needed spot table) _ names h in
    let items = bind-ok (of_kind spot (as_array value.0)) _ names value.2 in
    let strings = bind-ok (rows.strings spot (rows.item_list items.0)) _ names items.2 in
    let few = bind-ok (rows.at_most spot 64 strings.0) _ names strings.2 in
    let some = at_least_one-ok spot few.0 names few.2 in
    let most = length-at_most spot 64 strings.0 few.0 few.1 in
    (some.1, rw (← some.0) most)

-- ---- what gather gives, one value of each

one_more : {A B : Type 0} (f : ℕ → A → Checked B) (n : ℕ) (x : A) (xs : List A) (ys : List B)
    → gather (λ k x. map_ok one (f k x)) n (x ∷ xs) ≡ Ok ys
    → (y : B) × (rest : List B) × (f n x ≡ Ok y) × (gather (λ k x. map_ok one (f k x)) (n + 1) xs ≡ Ok rest) × (y ∷ rest ≡ ys)
one_more f n x xs ys h =
    let here = bind-ok (map_ok one (f n x)) _ ys h in
    let value = map_ok-ok one (f n x) here.0 here.1 in
    let rest = map_ok-ok (λ more. here.0 ++ more) (gather (λ k x. map_ok one (f k x)) (n + 1) xs) ys here.2 in
    (value.0, rest.0, value.1, rest.1, ap (λ l. l ++ rest.0) value.2 ∙ rest.2)

pub length-ones : {A B : Type 0} (f : ℕ → A → Checked B) (n : ℕ) (xs : List A) (ys : List B)
    → gather (λ k x. map_ok one (f k x)) n xs ≡ Ok ys → length ys ≡ length xs
length-ones f n [] ys h = let same : [] ≡ ys = cc in ap length (sym same)
length-ones f n (x ∷ xs) ys h =
    let more = one_more f n x xs ys h in
    let count = length-ones f (n + 1) xs more.1 more.3 in
    omega (arith, count, ap length more.4)

-- what each value keeps that f gives, all of them keep
pub ones-at : {A B : Type 0} (f : ℕ → A → Checked B) (P : ℕ → B → Type 0) → ((n : ℕ) (x : A) (y : B) → f n x ≡ Ok y → P n y)
    → (n : ℕ) (xs : List A) (ys : List B) → gather (λ k x. map_ok one (f k x)) n xs ≡ Ok ys
    → (k : ℕ) (d : B) → k < length ys → P (n + k) (get_or ys k d)
ones-at f P each n [] ys h k d inside = let same : [] ≡ ys = cc in absurd (omega (arith, ap length same))
ones-at {A} {B} f P each n (x ∷ xs) ys h k d inside =
    let more = one_more f n x xs ys h in
    let others = ones-at f P each (n + 1) xs more.1 more.3 in
    let within : k < length (more.0 ∷ more.1) = omega (arith, ap length more.4) in
    subst (λ (zs : List B). P (n + k) (get_or zs k d)) more.4 (at_cons more.0 more.1 (each n x more.0 more.2) others k within)
  where
    at_cons : (y : B) (zs : List B) → P n y → ((k : ℕ) (d : B) → k < length zs → P (n + 1 + k) (get_or zs k d))
        → (k : ℕ) → k < length (y ∷ zs) → P (n + k) (get_or (y ∷ zs) k d)
    at_cons y zs first others zero inside = let same : n ≡ n + 0 = omega arith in subst (λ (m : ℕ). P m y) same first
    at_cons y zs first others (suc k) inside =
        let same : n + 1 + k ≡ n + suc k = omega arith in
        let within : k < length zs = omega arith in
        subst (λ (m : ℕ). P m (get_or zs k d)) same (others k d within)

-- ---- vectors

abbrev Rising : VectorValue → VectorValue → Type 0
Rising v w = v.vector < w.vector

-- vectors that rise, each from `low` to below `high`
record RiseWithin (low high : ℕ) (vs : List VectorValue) : Type 0 where
  from_low : All (λ v. low ≤ v.vector) vs
  below_high : All (λ v. v.vector < high) vs
  rising : AllPairs Rising vs

RiseWithin-nil : (low high : ℕ) → RiseWithin low high []
RiseWithin-nil low high = record { from_low = All-nil _; below_high = All-nil _; rising = λ i j d order inside. absurd (omega arith) }

RiseWithin-lower : (low high : ℕ) (vs : List VectorValue) → RiseWithin (low + 1) high vs → RiseWithin low high vs
RiseWithin-lower low high vs h = record {
  from_low = All-weaker (λ v. low + 1 ≤ v.vector) (λ v. low ≤ v.vector) (λ v e. omega arith) vs h.from_low;
  below_high = h.below_high;
  rising = h.rising;
}

RiseWithin-cons : (low high : ℕ) (v : VectorValue) (vs : List VectorValue) → v.vector ≡ low → low < high → RiseWithin (low + 1) high vs
    → RiseWithin low high (v ∷ vs)
RiseWithin-cons low high v vs here room h = record {
  from_low = All-cons (λ w. low ≤ w.vector) v vs (omega arith) (All-weaker (λ w. low + 1 ≤ w.vector) (λ w. low ≤ w.vector) (λ w e. omega arith) vs h.from_low);
  below_high = All-cons (λ w. w.vector < high) v vs (omega arith) h.below_high;
  rising = AllPairs-cons Rising v vs (All-weaker (λ w. low + 1 ≤ w.vector) (Rising v) (λ w e. omega arith) vs h.from_low) h.rising;
}

-- a vector's key gives nothing or its name
abbrev AtMostOne : ℕ → List VectorValue → Type 0
AtMostOne n vs = (vs ≡ []) ⊎ ((v : VectorValue) × (v.vector ≡ n) × (vs ≡ v ∷ []))

AtMostOne-vector_at : (spot : Spot) (table : Members) (n : ℕ) (key : List ℕ) (vs : List VectorValue)
    → rows.vector_at spot table n key ≡ Ok vs → AtMostOne n vs
AtMostOne-vector_at spot table n key vs h = by (get_member key table) h
  where
    by : (o : Option Data) → rows.if_there (rows.vector_of_value spot n) o ≡ Ok vs → AtMostOne n vs
    by None h = let same : [] ≡ vs = cc in inl (sym same)
    by (Some d) h =
        let named = map_ok-ok (λ s. one (record { vector = n; name = s })) (rows.string spot d) vs h in
        inr (record { vector = n; name = named.0 }, refl, sym named.2)

RiseWithin-gather : (spot : Spot) (table : Members) (n : ℕ) (keys : List (List ℕ)) (vs : List VectorValue)
    → gather (rows.vector_at spot table) n keys ≡ Ok vs → RiseWithin n (n + length keys) vs
RiseWithin-gather spot table n [] vs h = let same : [] ≡ vs = cc in subst (RiseWithin n (n + 0)) same (RiseWithin-nil n (n + 0))
RiseWithin-gather spot table n (key ∷ keys) vs h =
    let here = bind-ok (rows.vector_at spot table n key) _ vs h in
    let rest = map_ok-ok (λ more. here.0 ++ more) (gather (rows.vector_at spot table) (n + 1) keys) vs here.2 in
    let count : n + 1 + length keys ≡ n + length (key ∷ keys) = omega arith in
    let others = subst (λ (m : ℕ). RiseWithin (n + 1) m rest.0) count (RiseWithin-gather spot table (n + 1) keys rest.0 rest.1) in
    subst (RiseWithin n (n + length (key ∷ keys))) rest.2 (joined here.0 rest.0 (AtMostOne-vector_at spot table n key here.0 here.1) others)
  where
    joined : (front more : List VectorValue) → AtMostOne n front → RiseWithin (n + 1) (n + length (key ∷ keys)) more
        → RiseWithin n (n + length (key ∷ keys)) (front ++ more)
    joined front more (inl e) others = rw e (RiseWithin-lower n _ more others)
    joined front more (inr w) others = rw w.2 (RiseWithin-cons n _ w.0 more w.1 (omega arith) others)

AreVectors-within : (vs : List VectorValue) → RiseWithin 0 16 vs → AreVectors vs
AreVectors-within vs h = record { below_16 = h.below_high; rising = h.rising }

pub AreVectors-vectors : (spot : Spot) (table : Members) (vs : List VectorValue) → rows.vectors spot table ≡ Ok vs → AreVectors vs
AreVectors-vectors spot table vs h = by (rows.member_at spot table) h
  where
    by : (o : Option Data) → rows.if_there (λ d. rows.inner_table spot d >>= rows.vectors_in spot) o ≡ Ok vs → AreVectors vs
    by None h = let same : [] ≡ vs = cc in subst AreVectors same (AreVectors-within [] (RiseWithin-nil 0 16))
    by (Some d) h =
        let inner = bind-ok (rows.inner_table spot d) _ vs h in
        let known = bind-ok (rows.known (rows.all_keys rows.is_vector_key inner.0) None) _ vs inner.2 in
        AreVectors-within vs (RiseWithin-gather spot inner.0 0 rows.vector_keys vs known.2)

-- ---- modules

pub length-tables : (spot : Spot) (most : ℕ) (table : Members) (ts : List Members) → rows.tables spot most table ≡ Ok ts → length ts ≤ most
length-tables spot most table ts h = by (rows.member_at spot table) h
  where
    by : (o : Option Data) → rows.if_there (rows.tables_in spot most) o ≡ Ok ts → length ts ≤ most
    by None h = let same : [] ≡ ts = cc in rw (← same) (omega arith)
    by (Some d) h =
        let items = bind-ok (of_kind spot (as_array d)) _ ts h in
        let found = bind-ok (rows.inner_tables spot (rows.item_list items.0)) _ ts items.2 in
        length-at_most spot most found.0 ts found.2

-- what a module's table gives
record IsRow (version n : ℕ) (m : ModuleValue) : Type 0 where
  pub first_version : (version == 1) ≡ true → m.boot ≡ n + 1
  pub is_module : n < layout.room_of version → IsModuleValue (layout.room_of version) m

record IsBoot (first : Bool) (n boot : ℕ) : Type 0 where
  first_version : first ≡ true → boot ≡ n + 1
  within : n < (if first then 8 else 32) → (1 ≤ boot) × (boot ≤ (if first then 8 else 32))

IsBoot-choice : (first : Bool) (n : ℕ) (table : Members) (boot : ℕ)
    → (if first then Ok (n + 1) else rows.integer (layout.in_module n Boot) (layout.between 1 32) table) ≡ Ok boot → IsBoot first n boot
IsBoot-choice true n table boot h = let same : n + 1 ≡ boot = cc in record { first_version = λ _. sym same; within = λ inside. (omega arith, omega arith) }
IsBoot-choice false n table boot h =
    let bounds = Within-integer (layout.in_module n Boot) (layout.between 1 32) table boot h in
    record { first_version = λ e. absurd (cc); within = λ inside. (bounds.least, bounds.most) }

IsRow-module_row : (version n : ℕ) (table : Members) (m : ModuleValue) → layout.module_row version n table ≡ Ok m → IsRow version n m
IsRow-module_row version n table m h =
    let known = bind-ok (rows.listed (layout.module_keys version) (Some n) table) _ m h in
    let name = bind-ok (rows.name (layout.in_module n Name) 32 table) _ m known.2 in
    let vendor = bind-ok (rows.integer (layout.in_module n Vendor) (layout.between 0 65535) table) _ m name.2 in
    let text = bind-ok (rows.section_member (layout.in_module n Text) layout.region table) _ m vendor.2 in
    let ram = bind-ok (rows.section_member (layout.in_module n DataKey) layout.region table) _ m text.2 in
    let stack = bind-ok (rows.integer (layout.in_module n Stack) (layout.evens 2 32768) table) _ m ram.2 in
    let entries = bind-ok (rows.entries (layout.in_module n Entries) 64 table) _ m stack.2 in
    let boot = bind-ok (layout.module_boot version n table) _ m entries.2 in
    let booted = IsBoot-choice (version == 1) n table boot.0 boot.1 in
    let made : record { name = name.0; vendor = vendor.0; text = text.0; ram = ram.0; stack = stack.0; entries = entries.0; boot = boot.0 } ≡ m = ok_same _ m boot.2 in
    let name_ok = IsName-name (layout.in_module n Name) table name.0 name.1 in
    let stack_ok = Within-integer (layout.in_module n Stack) (layout.evens 2 32768) table stack.0 stack.1 in
    let entries_ok = length-entries (layout.in_module n Entries) table entries.0 entries.1 in
    subst (IsRow version n) made (record {
      first_version = booted.first_version;
      is_module = λ inside. record {
        some_name = name_ok.some;
        short_name = name_ok.short;
        name_bytes = name_ok.bytes;
        vendor_word = (Within-integer (layout.in_module n Vendor) (layout.between 0 65535) table vendor.0 vendor.1).most;
        text_region = IsRegion-section (layout.in_module n Text) table text.0 text.1;
        ram_region = IsRegion-section (layout.in_module n DataKey) table ram.0 ram.1;
        even_stack = stack_ok.even refl;
        some_stack = stack_ok.least;
        small_stack = stack_ok.most;
        some_entries = entries_ok.0;
        few_entries = entries_ok.1;
        some_boot = (booted.within inside).0;
        small_boot = (booted.within inside).1;
      };
    })

-- ---- regions, names and boots

differ-bytes_eq : (a b : List ℕ) → bytes_eq a b ≡ false → a ≢ b
differ-bytes_eq a b h same = let tested = (bytes_eq-Decides a b).1 same in absurd (cc)

no_pair-ok : (fault : ℕ → ℕ → LayoutFault) (o : Option (ℕ × ℕ)) (u : Unit {0}) → layout.no_pair fault o ≡ Ok u → o ≡ None
no_pair-ok fault None u h = refl
no_pair-ok fault (Some p) u h = absurd (cc)

record AreClear (text ram : Section) (ms : List ModuleValue) : Type 0 where
  apart : AllPairs ShareNoByte (regions text ram ms)
  names : AllPairs (λ a b. a ≢ b) (module_names ms)
  boots : AllPairs (λ a b. a ≢ b) (boots_of ms)

AreClear-clear : (text ram : Section) (ms : List ModuleValue) (u : Unit {0}) → layout.clear text ram ms ≡ Ok u → AreClear text ram ms
AreClear-clear text ram ms u h =
    let apart = bind-ok (layout.no_pair Overlap (first_clash share_byte (regions text ram ms))) _ u h in
    let named = bind-ok (layout.no_pair SameName (first_clash bytes_eq (module_names ms))) _ u apart.2 in
    record {
      apart = AllPairs-weaker (λ a b. share_byte a b ≡ false) ShareNoByte ShareNoByte-share_byte (regions text ram ms)
          (AllPairs-first_clash share_byte (regions text ram ms) (no_pair-ok Overlap _ apart.0 apart.1));
      names = AllPairs-weaker (λ a b. bytes_eq a b ≡ false) (λ a b. a ≢ b) differ-bytes_eq (module_names ms)
          (AllPairs-first_clash bytes_eq (module_names ms) (no_pair-ok SameName _ named.0 named.1));
      boots = AllPairs-weaker (λ a b. (a == b) ≡ false) (λ a b. a ≢ b) eqb-false (boots_of ms)
          (AllPairs-first_clash (λ a b. a == b) (boots_of ms) (no_pair-ok SameBoot _ u named.2));
    }

-- ---- the layout

known_room : (version : ℕ) → IsTrue ((layout.room_of version == 8) || (layout.room_of version == 32))
known_room version = by (version == 1)
  where
    by : (first : Bool) → IsTrue (((if first then 8 else 32) == 8) || ((if first then 8 else 32) == 32))
    by true = refl
    by false = refl

first_of_room : (version : ℕ) → layout.room_of version ≡ 8 → (version == 1) ≡ true
first_of_room version h = by (version == 1) h
  where
    by : (first : Bool) → ◌≡◌ {A = ℕ} (if first then 8 else 32) 8 → first ≡ true
    by true h = refl
    by false h = absurd (omega arith)

record AreModules (version : ℕ) (ms : List ModuleValue) : Type 0 where
  each : All (IsModuleValue (layout.room_of version)) ms
  few : length ms ≤ layout.room_of version
  in_order : layout.room_of version ≡ 8 → (k d : ℕ) → k < length ms → get_or (boots_of ms) k d ≡ k + 1

AreModules-modules_in : (version : ℕ) (ts : List Members) (ms : List ModuleValue) → length ts ≤ layout.room_of version
    → layout.modules_in version ts ≡ Ok ms → AreModules version ms
AreModules-modules_in version ts ms few h =
    let count = length-ones (layout.module_row version) 0 ts ms h in
    let row : (k : ℕ) (d : ModuleValue) → k < length ms → IsRow version k (get_or ms k d) =
    λ k d inside. let same : 0 + k ≡ k = omega arith in
    subst (λ (n : ℕ). IsRow version n (get_or ms k d)) same (ones-at (layout.module_row version) (IsRow version) (IsRow-module_row version) 0 ts ms h k d inside) in
    record {
      each = λ k d inside. (row k d inside).is_module (omega (arith, count));
      few = omega (arith, count);
      in_order = λ room k d inside.
          let m : ModuleValue = first_module ms k inside in
          get_or-map (λ (x : ModuleValue). x.boot) ms k m d inside ∙ (row k m inside).first_version (first_of_room version room);
    }
  where
    first_module : (ms : List ModuleValue) (k : ℕ) → k < length ms → ModuleValue
    first_module [] k inside = absurd (omega arith)
    first_module (m ∷ ms) k inside = m

pub IsLayout-layout_in : (top : Members) (l : LayoutValue) → layout.layout_in top ≡ Ok l → IsLayout l
IsLayout-layout_in top l h =
    let known = bind-ok (rows.listed layout.top_keys None top) _ l h in
    let version = bind-ok (rows.integer (layout.at_top Version) (layout.between 1 2) top) _ l known.2 in
    let key = bind-ok (rows.key_member (layout.at_top Key) top) _ l version.2 in
    let handler_sp = bind-ok (rows.integer (layout.at_top HandlerSp) (layout.evens 0 65534) top) _ l key.2 in
    let text = bind-ok (rows.section_member (layout.at_top Text) layout.region top) _ l handler_sp.2 in
    let ram = bind-ok (rows.section_member (layout.at_top DataKey) layout.region top) _ l text.2 in
    let vectors = bind-ok (rows.vectors (layout.at_top Vectors) top) _ l ram.2 in
    let tables = bind-ok (rows.tables (layout.at_top Module) (layout.room_of version.0) top) _ l vectors.2 in
    let modules = bind-ok (layout.modules_in version.0 tables.0) _ l tables.2 in
    let clear = bind-ok (layout.clear text.0 ram.0 modules.0) _ l modules.2 in
    let stack = Within-integer (layout.at_top HandlerSp) (layout.evens 0 65534) top handler_sp.0 handler_sp.1 in
    let few = length-tables (layout.at_top Module) (layout.room_of version.0) top tables.0 tables.1 in
    let kept = AreModules-modules_in version.0 tables.0 modules.0 few modules.1 in
    let apart = AreClear-clear text.0 ram.0 modules.0 clear.0 clear.1 in
    let made = ok_same _ l clear.2 in
    subst IsLayout made (record {
      known_room = known_room version.0;
      key_bytes = length-hex_key (layout.at_top Key) top key.0 key.1;
      even_handler_sp = stack.even refl;
      small_handler_sp = stack.most;
      text_region = IsRegion-section (layout.at_top Text) top text.0 text.1;
      ram_region = IsRegion-section (layout.at_top DataKey) top ram.0 ram.1;
      vectors_kept = AreVectors-vectors (layout.at_top Vectors) top vectors.0 vectors.1;
      modules_kept = kept.each;
      few_modules = kept.few;
      regions_apart = apart.apart;
      names_differ = apart.names;
      boots_differ = apart.boots;
      boots_in_order = kept.in_order;
    })

IfOk-sound : (r : Checked LayoutValue) → ((l : LayoutValue) → r ≡ Ok l → IsLayout l) → IfOk r IsLayout
IfOk-sound (Ok l) sound = sound l refl
IfOk-sound (Err e) sound = tt

pub IsLayout-LayoutOf : (bytes : List ℕ) → IfOk (LayoutOf bytes) IsLayout
unfolding LayoutOf
IsLayout-LayoutOf bytes = by (is_utf8 bytes) (parse_document bytes)
  where
    by : (text : Bool) (document : Option Members) → IfOk (if text then layout.of_document document else Err Utf8OrToml) IsLayout
    by true (Some top) = IfOk-sound (layout.layout_in top) (IsLayout-layout_in top)
    by _ _ = tt
