-- The module with an id, and addresses inside and outside of sections.
use Rattle.std.proofs.Common.{◌≡◌, ◌⊎◌, inl, inr, ⊎_elim, ℕ, ◌+◌, ◌<◌, ◌≤◌, max, min, List, [], ◌∷◌, Bool, true, false, cond, nat_lt, nat_le, ◌&&◌, ◌||◌, ◌==◌, Option, Some, None, IfSome, refl, sym, ◌∙◌, ap, subst, arith}
pub use Rattle.std.proofs.lemmas.Bool.{and_parts as and_true}
use Rattle.std.proofs.lemmas.Bool.{and_right, cases_lt, le-ltb, leb-true, ltb-false, ltb-true}
use Rattle.std.proofs.lemmas.Bool.Decides.{nat_tests}
use Rattle.std.proofs.lemmas.Option.{none-some}
use Rattle.std.specs.List.{AllByRecursion, find}
use Rattle.mod_layout.specs.declared.Place.{Place}
use Rattle.mod_layout.specs.declared.Place.TheVariants.{Entry, Text, Data}
use Rattle.mod_layout.specs.declared.Section.{Section}
use Rattle.mod_layout.specs.declared.Module.{Module}
use Rattle.mod_layout.specs.Table.{Table, holds, module_of, share_byte}
use Rattle.mod_layout.specs.Tables.{IsSection, IsModule, Separate, AreModules, IsTable}

-- what an address is, by three tests on the first module: its entry word, the rest of its text, its data
abbrev pub place_by : Bool → Bool → Bool → ℕ → Place → Place
place_by entry text ram id rest = cond entry (Entry id) (cond text (Text id) (cond ram (Data id) rest))

-- a module is separate from each of these
abbrev pub SeparateFrom : Module → List Module → Type 0
SeparateFrom x xs = AllByRecursion (Separate x) xs

-- the module with this id among these
abbrev pub find_module : ℕ → List Module → Option Module
find_module id ms = find (λ m. m.id == id) ms

-- ---- addresses

-- an address outside a section
pub outside : (s : Section) (a : ℕ) → (a < s.start) ⊎ (s.end ≤ a) → holds s a ≡ false
outside s a (inl h) = ap (λ (b : Bool). b && nat_lt a s.end) (let e : nat_le s.start a ≡ false = grind (arith, nat_tests) in e)
outside s a (inr h) = ap (λ (b : Bool). nat_le s.start a && b) (let e : nat_lt a s.end ≡ false = grind (arith, nat_tests) in e) ∙ and_right (nat_le s.start a) false refl

-- and one inside lies between its ends
pub ends_of : (s : Section) (a : ℕ) → holds s a ≡ true → (s.start ≤ a) × (a < s.end)
ends_of s a h = let ends = and_true _ _ h in (leb-true s.start a ends.0, ltb-true a s.end ends.1)

pub within : (s : Section) (a : ℕ) → s.start ≤ a → a < s.end → holds s a ≡ true
within s a low high =
    ap (λ (b : Bool). b && nat_lt a s.end) (let e : nat_le s.start a ≡ true = grind (arith, nat_tests) in e)
    ∙ (let e : nat_lt a s.end ≡ true = grind (arith, nat_tests) in e)

-- nor is it one of the entry word's
pub no_entry : (s : Section) (a : ℕ) → IsSection s → holds s a ≡ false → ((a == s.start) || (a == s.start + 1)) ≡ false
no_entry s a ok e = by ((a == s.start) || (a == s.start + 1)) refl
  where
    by : (c : Bool) → ((a == s.start) || (a == s.start + 1)) ≡ c → ((a == s.start) || (a == s.start + 1)) ≡ false
    by false f = f
    by true f =
        let o = ok.order in let e1 = ok.even_start in let e2 = ok.even_end in
        let low : s.start ≤ a = grind (arith, nat_tests) in
        let up : a ≤ s.start + 1 = grind (arith, nat_tests) in
        let t = within s a low (omega arith) in absurd (let c : true ≡ false = sym t ∙ e in cc)

-- two sections that share no byte share none the other way round
pub share_sym : (a b : Section) → share_byte a b ≡ false → share_byte b a ≡ false
share_sym a b h =
    let ends : min a.end b.end ≤ max a.start b.start = ltb-false (max a.start b.start) (min a.end b.end) h in
    le-ltb (max b.start a.start) (min b.end a.end) (omega arith)

-- an address of one section is outside one with which it shares no byte
pub elsewhere : (s r : Section) (a : ℕ) → r.start ≤ a → a < r.end → share_byte s r ≡ false → (a < s.start) ⊎ (s.end ≤ a)
elsewhere s r a low high h = by (cases_lt a s.start)
  where
    by : (a < s.start) ⊎ (s.start ≤ a) → (a < s.start) ⊎ (s.end ≤ a)
    by (inl before) = inl before
    by (inr from) =
        let ends : min s.end r.end ≤ max s.start r.start = ltb-false (max s.start r.start) (min s.end r.end) h in
        inr (omega arith)

-- ---- look-ups

pub found_first : (y m : Module) (rest : Option Module) (b : Bool) → cond b (Some y) rest ≡ Some m → (y ≡ m) ⊎ (rest ≡ Some m)
found_first y m rest true e = inl (let k : y ≡ m = (cc) in k)
found_first y m rest false e = inr e

-- a module that was found is one of those that the first is separate from
pub separate_found : (x m : Module) (id : ℕ) (ms : List Module) → SeparateFrom x ms → find_module id ms ≡ Some m → Separate x m
separate_found x m id [] s e = absurd (none-some m e)
separate_found x m id (y ∷ ms) s e =
    ⊎_elim (λ k. subst (Separate x) k s.0) (λ k. separate_found x m id ms s.1 k) (found_first y m (find_module id ms) (y.id == id) e)

pub module_found : (given id : ℕ) (m : Module) (ms : List Module) → AreModules given ms → find_module id ms ≡ Some m → IsModule given m
module_found given id m [] are e = absurd (none-some m e)
module_found given id m (y ∷ ms) are e =
    ⊎_elim (λ k. subst (IsModule given) k are.0) (λ k. module_found given id m ms are.2 k) (found_first y m (find_module id ms) (y.id == id) e)

-- what is found by an id is a module of the table
pub found_kept : (t : Table) (id : ℕ) (r : Option Module) → r ≡ module_of id t → IsTable t → IfSome r (IsModule t.given)
found_kept t id None e ok = tt
found_kept t id (Some m) e ok = module_found t.given id m t.modules ok.modules (sym e)
