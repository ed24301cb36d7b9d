-- Passes over a list whose elements are found by their places.
use Rattle.std.proofs.Common.{◌≡◌, ℕ, suc, ◌+◌, ◌<◌, ◌≤◌, List, ◌∷◌, drop, length, get_or, Option, Some, None, Bool, true, false, ◌||◌, eqb, ◌≢◌, set, length-set, refl, ap, sym, subst, ◌∙◌, arith, fold}
use Rattle.std.specs.Prelude.{slice_get, All}
use Rattle.std.proofs.Math.Bool.{or-true}
use Rattle.std.proofs.Math.Seq.{drop-cons}
use Rattle.std.proofs.Math.ListN.{drop_of_length-le}
use Rattle.std.proofs.lemmas.Grind.{get_or-set_at}
use Rattle.std.proofs.lemmas.List.{get_or-set_other}
use Rattle.std.proofs.lemmas.Bool.Decides.{nat_tests}
use Rattle.std.proofs.lemmas.Option.{slice_get_within, get_or_from_slice_get}
use Rattle.elf_objects.specs.declared.object.Relocation.{Relocation}
use Rattle.mod_layout.specs.First.{first_in}
use Rattle.link_symbols.specs.Refusals.{is_used}

-- what is found is the first of the rest
drop_found : {X : Type 0} (xs : List X) (i : ℕ) (x : X) → slice_get xs i ≡ Some x → drop i xs ≡ x ∷ drop (i + 1) xs
drop_found xs i x found =
    let lt = slice_get_within xs i x found in
    let e : suc i ≡ i + 1 = omega arith in
    drop-cons xs i x lt ∙ (ap (λ y. y ∷ drop (suc i) xs) (get_or_from_slice_get xs i x x found) ∙ ap (λ (n : ℕ). x ∷ drop n xs) e)

pub all_found : {X : Type 0} (P : X → Type 0) (xs : List X) (i : ℕ) (x : X) → All P xs → slice_get xs i ≡ Some x → P x
all_found P xs i x all found = subst P (get_or_from_slice_get xs i x x found) (all i x (slice_get_within xs i x found))

pub fold_found : {X A : Type 0} (f : A → X → A) (a : A) (xs : List X) (i : ℕ) (x : X) → slice_get xs i ≡ Some x → fold f a (drop i xs) ≡ fold f (f a x) (drop (i + 1) xs)
fold_found f a xs i x found = ap (fold f a) (drop_found xs i x found)

pub fold_over : {X A : Type 0} (f : A → X → A) (a : A) (xs : List X) (i : ℕ) → length xs ≤ i → fold f a (drop i xs) ≡ a
fold_over f a xs i over = ap (fold f a) (drop_of_length-le xs over)

pub first_found : {X A : Type 0} (f : X → Option A) (xs : List X) (i : ℕ) (x : X) → slice_get xs i ≡ Some x → f x ≡ None → first_in f (drop i xs) ≡ first_in f (drop (i + 1) xs)
first_found f xs i x found none = ap (first_in f) (drop_found xs i x found) ∙ rw none refl

pub first_hit : {X A : Type 0} (f : X → Option A) (xs : List X) (i : ℕ) (x : X) (a : A) → slice_get xs i ≡ Some x → f x ≡ Some a → first_in f (drop i xs) ≡ Some a
first_hit f xs i x a found hit = ap (first_in f) (drop_found xs i x found) ∙ rw hit refl

-- ---- the symbols that are used

-- a symbol is used by what was looked at, or by the rest
abbrev pub Marks : List Bool → List Relocation → ℕ → Type 0
Marks used relocations place = (k : ℕ) → k < length used → is_used relocations k ≡ (get_or used k false || is_used (drop place relocations) k)

-- whether the first of the rest uses it, or the others do
rest_of : (rs : List Relocation) (place : ℕ) (r : Relocation) (k : ℕ) → slice_get rs place ≡ Some r → is_used (drop place rs) k ≡ (eqb r.symbol k || is_used (drop (place + 1) rs) k)
rest_of rs place r k found = ap (λ l. is_used l k) (drop_found rs place r found)

mark_by : (used : List Bool) (rs : List Relocation) (place : ℕ) (r : Relocation) (k : ℕ) (b : Bool) → eqb r.symbol k ≡ b → slice_get rs place ≡ Some r → r.symbol < length used
    → is_used rs k ≡ (get_or used k false || (b || is_used (drop (place + 1) rs) k))
    → is_used rs k ≡ (get_or (set used r.symbol true) k false || is_used (drop (place + 1) rs) k)
mark_by used rs place r k true same found lt marks =
    let here : k ≡ r.symbol = grind (arith, nat_tests) in
    marks ∙ (or-true (get_or used k false) ∙ sym (ap (λ b. b || is_used (drop (place + 1) rs) k) (get_or-set_at used r.symbol k true false here lt)))
mark_by used rs place r k false other found lt marks =
    let there : k ≢ r.symbol = grind (arith, nat_tests) in
    marks ∙ sym (ap (λ b. b || is_used (drop (place + 1) rs) k) (get_or-set_other used r.symbol k true false there))

-- one relocation more is looked at
pub used_more : (used : List Bool) (rs : List Relocation) (place : ℕ) (r : Relocation) → slice_get rs place ≡ Some r → r.symbol < length used → Marks used rs place → Marks (set used r.symbol true) rs (place + 1)
used_more used rs place r found lt marks = λ k within.
    let w : k < length used = rw (length-set) at within in
    mark_by used rs place r k (eqb r.symbol k) refl found lt (marks k w ∙ ap (λ b. get_or used k false || b) (rest_of rs place r k found))

-- at first none is marked
pub used_none : (used : List Bool) (rs : List Relocation) → ((k : ℕ) → get_or used k false ≡ false) → Marks used rs 0
used_none used rs none = λ k within. sym (ap (λ b. b || is_used rs k) (none k))

or_none : (a b : Bool) → b ≡ false → (a || b) ≡ a
or_none true b e = refl
or_none false b e = e

-- at last all are
pub used_all : (used : List Bool) (rs : List Relocation) (place : ℕ) → length rs ≤ place → Marks used rs place → (k : ℕ) → k < length used → get_or used k false ≡ is_used rs k
used_all used rs place over marks k within =
    sym (marks k within ∙ or_none (get_or used k false) (is_used (drop place rs) k) (ap (λ l. is_used l k) (drop_of_length-le rs over)))
