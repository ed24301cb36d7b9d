-- The table's definitions along a list of modules, and what a table keeps as modules come and go.
use Rattle.std.proofs.Common.{◌≡◌, ◌⊎◌, inl, inr, ℕ, ◌+◌, ◌%◌, ◌<◌, ◌≤◌, max, min, map, List, [], ◌∷◌, ◌++◌, length, length-append, Bool, true, false, nat_lt, nat_le, cond, not, ◌&&◌, ◌||◌, ◌==◌, Option, Some, None, IsSome, is_none, refl, sym, ◌∙◌, subst, arith, one-add}
use Rattle.std.specs.Bool.{then_some}
use Rattle.std.specs.Option.{option_map}
use Rattle.std.specs.List.{filter, fold, reduce, remove, position_or_len, position}
use Rattle.std.proofs.lemmas.Bool.Decides.{nat_tests}
use Rattle.std.proofs.lemmas.Bool.{cases_lt, ltb-false, not-false, and_from, and_parts, or_parts}
use Rattle.mod_layout.specs.declared.TheConstants.{DEVICES_END, FIRST_VECTOR}
use Rattle.mod_layout.specs.declared.Section.{Section}
use Rattle.mod_layout.specs.declared.Module.{Module}
use Rattle.mod_layout.specs.declared.TableFault.{TableFault}
use Rattle.mod_layout.specs.declared.TableFault.TheVariants.{Empty, Odd, Overlap, Reserved, Full, Spent}
use Rattle.mod_layout.specs.First.{first_of}
use Rattle.mod_layout.specs.Table.{Table, holds, size_of, place_in, place_of, without, drop_module, share_byte, meets, is_empty, is_odd, is_reserved, lowest_met, fault_of, takes, with_module}
use Rattle.mod_layout.specs.Tables.{IsSection, IsModule, Separate, AreModules, IsTable}
use Rattle.mod_layout.proofs.Found.{SeparateFrom, find_module, share_sym}

-- ---- look-ups

-- the lowest of an id, which may be none, and these
abbrev pub lowest_from : Option ℕ → List ℕ → Option ℕ
lowest_from None ids = reduce min ids
lowest_from (Some id) ids = Some (fold min id ids)

-- where the module with an id stands
pub record FoundAt (id : ℕ) (ms : List Module) (i : ℕ) : Type 0 where
  pub within : i < length ms
  pub found : IsSome (find_module id ms)
  pub dropped : drop_module id ms ≡ remove ms i

pub record FoundNowhere (id : ℕ) (ms : List Module) : Type 0 where
  pub missing : find_module id ms ≡ None
  pub kept : drop_module id ms ≡ ms

module _ (id : ℕ) where
  abbrev has_id : Module → Bool
  has_id m = m.id == id

  abbrev FoundBy : List Module → ℕ → Bool → Type 0
  FoundBy ms i true = FoundAt id ms i
  FoundBy ms i false = FoundNowhere id ms

  found_next : (m : Module) (ms : List Module) (here : Bool) (i : ℕ) → FoundBy ms i (nat_lt i (length ms)) → (m.id == id) ≡ here
      → FoundBy (m ∷ ms) (cond (not here) (1 + i) 0) (nat_lt (cond (not here) (1 + i) 0) (length (m ∷ ms)))
  found_next m ms true i r e =
      let here : FoundAt id (m ∷ ms) 0 = record { within = omega arith; found = rw e refl; dropped = rw e refl } in
      let t : true ≡ nat_lt 0 (length (m ∷ ms)) = grind (arith, nat_tests) in
      subst (FoundBy (m ∷ ms) 0) t here
  found_next m ms false i r e = by (nat_lt i (length ms)) (nat_lt (1 + i) (length (m ∷ ms))) refl refl r
    where
      by : (b c : Bool) → nat_lt i (length ms) ≡ b → nat_lt (1 + i) (length (m ∷ ms)) ≡ c → FoundBy ms i b → FoundBy (m ∷ ms) (1 + i) c
      by true true f g r = record { within = let w = r.within in omega arith; found = rw e r.found; dropped = rw (e, one-add, r.dropped) refl }
      by true false f g r = absurd (let w = r.within in let z : 1 + i < length (m ∷ ms) = omega arith in let y : nat_lt (1 + i) (length (m ∷ ms)) ≡ true = grind (arith, nat_tests) in let x : true ≡ false = sym y ∙ g in cc)
      by false true f g r = absurd (let z : i < length ms = grind (arith, nat_tests) in let y : nat_lt i (length ms) ≡ true = grind (arith, nat_tests) in let x : true ≡ false = sym y ∙ f in cc)
      by false false f g r = record { missing = rw e r.missing; kept = rw (e, r.kept) refl }

  found_by : (ms : List Module) → FoundBy ms (position_or_len has_id ms) (nat_lt (position_or_len has_id ms) (length ms))
  found_by [] = record { missing = refl; kept = refl }
  found_by (m ∷ ms) = found_next m ms (m.id == id) (position_or_len has_id ms) (found_by ms) refl

  pub found_at : (ms : List Module) (i : ℕ) → position has_id ms ≡ Some i → FoundAt id ms i
  found_at ms i e = by (nat_lt (position_or_len has_id ms) (length ms)) (found_by ms) e
    where
      by : (c : Bool) → FoundBy ms (position_or_len has_id ms) c → cond c (Some (position_or_len has_id ms)) None ≡ Some i → FoundAt id ms i
      by true f e = let k : position_or_len has_id ms ≡ i = cc in subst (FoundAt id ms) k f
      by false f e = absurd cc

  pub found_nowhere : (ms : List Module) → position has_id ms ≡ None → FoundNowhere id ms
  found_nowhere ms e = by (nat_lt (position_or_len has_id ms) (length ms)) (found_by ms) e
    where
      by : (c : Bool) → FoundBy ms (position_or_len has_id ms) c → cond c (Some (position_or_len has_id ms)) None ≡ None → FoundNowhere id ms
      by true f e = absurd cc
      by false f e = f

-- ---- a module goes

pub separate_dropped : (x : Module) (id : ℕ) (ms : List Module) → SeparateFrom x ms → SeparateFrom x (drop_module id ms)
separate_dropped x id [] s = tt
separate_dropped x id (y ∷ ms) s = by (y.id == id) (separate_dropped x id ms s.1)
  where
    by : (c : Bool) → SeparateFrom x (drop_module id ms) → SeparateFrom x (cond c ms (y ∷ drop_module id ms))
    by true r = s.1
    by false r = (s.0, r)

pub are_dropped : (given id : ℕ) (ms : List Module) → AreModules given ms → AreModules given (drop_module id ms)
are_dropped given id [] h = tt
are_dropped given id (y ∷ ms) h = by (y.id == id) (are_dropped given id ms h.2)
  where
    by : (c : Bool) → AreModules given (drop_module id ms) → AreModules given (cond c ms (y ∷ drop_module id ms))
    by true r = h.2
    by false r = (h.0, separate_dropped y id ms h.1, r)

pub dropped_fits : (id : ℕ) (ms : List Module) → length (drop_module id ms) ≤ length ms
dropped_fits id [] = omega arith
dropped_fits id (y ∷ ms) = by (y.id == id) (dropped_fits id ms)
  where
    by : (c : Bool) → length (drop_module id ms) ≤ length ms → length (cond c ms (y ∷ drop_module id ms)) ≤ length (y ∷ ms)
    by true h = omega arith
    by false h = omega arith

pub table_dropped : (t : Table) (id : ℕ) → IsTable t → IsTable (without id t)
table_dropped t id ok =
    record { modules = are_dropped t.given id t.modules ok.modules; fits = let a = dropped_fits id t.modules in let b = ok.fits in omega arith; room_ok = ok.room_ok }

-- ---- a module comes

-- one of the two ends before the other begins
abbrev pub Apart : Section → Section → Type 0
Apart a b = (a.start + size_of a ≤ b.start) ⊎ (b.start + size_of b ≤ a.start)

-- sections with a byte each that share none are apart
pub apart_of : (a b : Section) → a.start < a.end → b.start < b.end → share_byte a b ≡ false → Apart a b
apart_of a b ao bo h = by (cases_lt b.start a.end)
  where
    by : (b.start < a.end) ⊎ (a.end ≤ b.start) → Apart a b
    by (inl over) =
        let ends : min a.end b.end ≤ max a.start b.start = ltb-false (max a.start b.start) (min a.end b.end) h in
        inr (omega arith)
    by (inr past) = inl (omega arith)

-- ---- what a table that takes a module knows
abbrev pub meets_any : Section → Section → List Module → Bool
meets_any text ram [] = false
meets_any text ram (m ∷ ms) = meets text ram m || meets_any text ram ms

pub none_met : (text ram : Section) (ms : List Module) → lowest_met text ram ms ≡ None → meets_any text ram ms ≡ false
none_met text ram [] e = refl
none_met text ram (x ∷ ms) e = by (meets text ram x) e (λ f. none_met text ram ms f)
  where
    by : (c : Bool) → reduce min (map (λ (m : Module). m.id) (cond c (x ∷ filter (meets text ram) ms) (filter (meets text ram) ms))) ≡ None
        → (lowest_met text ram ms ≡ None → meets_any text ram ms ≡ false) → (c || meets_any text ram ms) ≡ false
    by true f r = absurd cc
    by false f r = r f

-- where there is no fault no test says so
no_fault : (empty odd : Bool) (met : Option ℕ) (own reserved full spent : Bool) →
    first_of (
    then_some empty Empty ∷ then_some odd Odd ∷ option_map Overlap met ∷ then_some own (Overlap 0)
    ∷ then_some reserved Reserved ∷ then_some full Full ∷ then_some spent Spent ∷ []) ≡ None →
    (empty ≡ false) × (odd ≡ false) × (met ≡ None) × (own ≡ false) × (reserved ≡ false) × (full ≡ false) × (spent ≡ false)
no_fault false false None false false false false e = (refl, refl, refl, refl, refl, refl, refl)
no_fault _ _ _ _ _ _ _ e = absurd cc

none_of : (o : Option TableFault) → is_none o ≡ true → o ≡ None
none_of None e = refl
none_of (Some f) e = absurd cc

pub section_ok : (s : Section) → is_empty s ≡ false → is_odd s ≡ false → is_reserved s ≡ false → IsSection s
section_ok s a b c =
    let o = not-false (nat_lt s.start s.end) a in
    let p = not-false ((s.start % 2 == 0) && (s.end % 2 == 0)) b in
    let p1 = (and_parts (s.start % 2 == 0) (s.end % 2 == 0) p).0 in
    let p2 = (and_parts (s.start % 2 == 0) (s.end % 2 == 0) p).1 in
    let l = (or_parts (nat_lt s.start DEVICES_END) (nat_lt FIRST_VECTOR s.end) c).0 in
    let h = (or_parts (nat_lt s.start DEVICES_END) (nat_lt FIRST_VECTOR s.end) c).1 in
    record { order = grind (arith, nat_tests); even_start = grind (arith, nat_tests); even_end = grind (arith, nat_tests); low = grind (arith, nat_tests); high = grind (arith, nat_tests) }

pub record Taken (t : Table) (text ram : Section) : Type 0 where
  pub text_ok : IsSection text
  pub ram_ok : IsSection ram
  pub none : meets_any text ram t.modules ≡ false
  pub apart : share_byte text ram ≡ false
  pub room : length t.modules < t.room
  pub given : t.given < 65535

pub taken : (t : Table) (text ram : Section) → takes t text ram ≡ true → Taken t text ram
taken t text ram e =
    let f =
    no_fault (is_empty text || is_empty ram) (is_odd text || is_odd ram) (lowest_met text ram t.modules) (share_byte text ram)
    (is_reserved text || is_reserved ram) (not (nat_lt (length t.modules) t.room)) (not (nat_lt t.given 65535)) (none_of (fault_of t text ram) e)
    in
    let r = not-false (nat_lt (length t.modules) t.room) f.5 in
    let g = not-false (nat_lt t.given 65535) f.6 in
    record {
      text_ok = section_ok text (or_parts (is_empty text) (is_empty ram) f.0).0 (or_parts (is_odd text) (is_odd ram) f.1).0 (or_parts (is_reserved text) (is_reserved ram) f.4).0;
      ram_ok = section_ok ram (or_parts (is_empty text) (is_empty ram) f.0).1 (or_parts (is_odd text) (is_odd ram) f.1).1 (or_parts (is_reserved text) (is_reserved ram) f.4).1;
      none = none_met text ram t.modules f.2;
      apart = f.3;
      room = grind (arith, nat_tests);
      given = grind (arith, nat_tests);
    }

module _ (given : ℕ) (new : Module) (new_ok : IsModule (given + 1) new) (id_is : new.id ≡ given + 1) where
  separate_new : (x : Module) → IsModule given x → meets new.text new.ram x ≡ false → Separate x new
  separate_new x ok h =
      let t = new.text in let r = new.ram in
      let a4 = (or_parts (share_byte t x.text || share_byte t x.ram || share_byte r x.text) (share_byte r x.ram) h).1 in
      let h3 = (or_parts (share_byte t x.text || share_byte t x.ram || share_byte r x.text) (share_byte r x.ram) h).0 in
      let a3 = (or_parts (share_byte t x.text || share_byte t x.ram) (share_byte r x.text) h3).1 in
      let h2 = (or_parts (share_byte t x.text || share_byte t x.ram) (share_byte r x.text) h3).0 in
      let a2 = (or_parts (share_byte t x.text) (share_byte t x.ram) h2).1 in
      let a1 = (or_parts (share_byte t x.text) (share_byte t x.ram) h2).0 in
      record {
        texts = share_sym t x.text a1;
        text_ram = share_sym r x.text a3;
        ram_text = share_sym t x.ram a2;
        rams = share_sym r x.ram a4;
        ids = λ e. let k = ok.known in absurd (omega arith);
      }

  separate_more : (x : Module) (ms : List Module) → SeparateFrom x ms → Separate x new → SeparateFrom x (ms ++ new ∷ [])
  separate_more x [] s n = (n, tt)
  separate_more x (y ∷ ms) s n = (s.0, separate_more x ms s.1 n)

  known_more : (x : Module) → IsModule given x → IsModule (given + 1) x
  known_more x ok = record { text_ok = ok.text_ok; ram_ok = ok.ram_ok; apart = ok.apart; numbered = ok.numbered; known = let k = ok.known in omega arith }

  are_more : (ms : List Module) → AreModules given ms → meets_any new.text new.ram ms ≡ false → AreModules (given + 1) (ms ++ new ∷ [])
  are_more [] h e = (new_ok, tt, tt)
  are_more (x ∷ ms) h e =
      (known_more x h.0, separate_more x ms h.1 (separate_new x h.0 (or_parts (meets new.text new.ram x) (meets_any new.text new.ram ms) e).0), are_more ms h.2 (or_parts (meets new.text new.ram x) (meets_any new.text new.ram ms) e).1)

pub table_more : (t : Table) (vendor : ℕ) (text ram : Section) → IsTable t → takes t text ram ≡ true → IsTable (with_module t vendor text ram)
table_more t vendor text ram ok h =
    let k = taken t text ram h in
    let new : Module = record { id = t.given + 1; vendor = vendor; text = text; ram = ram } in
    let new_ok : IsModule (t.given + 1) new = record { text_ok = k.text_ok; ram_ok = k.ram_ok; apart = k.apart; numbered = omega arith; known = omega arith } in
    record { modules = are_more t.given new new_ok refl t.modules ok.modules k.none; fits = let r = k.room in omega (arith, length-append t.modules (new ∷ [])); room_ok = ok.room_ok }

-- ---- words

-- two tests that hold together are one
same_test : (b c : Bool) → (b ≡ true → c ≡ true) → (c ≡ true → b ≡ true) → b ≡ c
same_test true c f g = sym (f refl)
same_test false true f g = g refl
same_test false false f g = refl

-- a section with even ends holds both bytes of a word or neither
held_both : (s : Section) (a : ℕ) → IsSection s → a % 2 ≡ 0 → holds s (a + 1) ≡ holds s a
held_both s a ok even = same_test (holds s (a + 1)) (holds s a) up down
  where
    e1 : s.start % 2 ≡ 0
    e1 = ok.even_start

    e2 : s.end % 2 ≡ 0
    e2 = ok.even_end

    up : holds s (a + 1) ≡ true → holds s a ≡ true
    up h =
        let p = (and_parts (nat_le s.start (a + 1)) (nat_lt (a + 1) s.end) h).0 in
        let q = (and_parts (nat_le s.start (a + 1)) (nat_lt (a + 1) s.end) h).1 in
        let l : s.start ≤ a + 1 = grind (arith, nat_tests) in
        let r : a + 1 < s.end = grind (arith, nat_tests) in
        let l' : s.start ≤ a = omega arith in
        let r' : a < s.end = omega arith in
        and_from (nat_le s.start a) (nat_lt a s.end) (grind (arith, nat_tests)) (grind (arith, nat_tests))

    down : holds s a ≡ true → holds s (a + 1) ≡ true
    down h =
        let p = (and_parts (nat_le s.start a) (nat_lt a s.end) h).0 in
        let q = (and_parts (nat_le s.start a) (nat_lt a s.end) h).1 in
        let l : s.start ≤ a = grind (arith, nat_tests) in
        let r : a < s.end = grind (arith, nat_tests) in
        let l' : s.start ≤ a + 1 = omega arith in
        let r' : a + 1 < s.end = omega arith in
        and_from (nat_le s.start (a + 1)) (nat_lt (a + 1) s.end) (grind (arith, nat_tests)) (grind (arith, nat_tests))

-- so has an entry word
entered_both : (start a : ℕ) → start % 2 ≡ 0 → a % 2 ≡ 0 → ((a + 1 == start) || (a + 1 == start + 1)) ≡ ((a == start) || (a == start + 1))
entered_both start a e even = same_test ((a + 1 == start) || (a + 1 == start + 1)) ((a == start) || (a == start + 1)) up down
  where
    up : ((a + 1 == start) || (a + 1 == start + 1)) ≡ true → ((a == start) || (a == start + 1)) ≡ true
    up h =
        let low : start ≤ a + 1 = grind (arith, nat_tests) in
        let high : a + 1 ≤ start + 1 = grind (arith, nat_tests) in
        let k : a ≡ start = omega arith in grind (arith, nat_tests)

    down : ((a == start) || (a == start + 1)) ≡ true → ((a + 1 == start) || (a + 1 == start + 1)) ≡ true
    down h =
        let low : start ≤ a = grind (arith, nat_tests) in
        let high : a ≤ start + 1 = grind (arith, nat_tests) in
        let k : a ≡ start = omega arith in grind (arith, nat_tests)

places_both : (given : ℕ) (ms : List Module) (a : ℕ) → AreModules given ms → a % 2 ≡ 0 → place_in ms (a + 1) ≡ place_in ms a
places_both given [] a h even = refl
places_both given (m ∷ ms) a h even =
    let k : IsModule given m = h.0 in
    rw (entered_both m.text.start a k.text_ok.even_start even, held_both m.text a k.text_ok even, held_both m.ram a k.ram_ok even, places_both given ms a h.2 even) refl

-- both bytes of a word at an even address are in the same place
pub one_place : (t : Table) (a : ℕ) → IsTable t → a % 2 ≡ 0 → place_of t (a + 1) ≡ place_of t a
unfolding place_of
one_place t a ok even = places_both t.given t.modules a ok.modules even
