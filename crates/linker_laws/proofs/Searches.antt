-- A search finds no refusal exactly where each element gives none.
use Rattle.std.proofs.Common.{◌≡◌, ◌≢◌, ℕ, zero, suc, ◌+◌, ◌<◌, List, [], ◌∷◌, length, get_or, Option, Some, None, Bool, true, false, is_none, refl, ap, sym, ◌∙◌, arith}
use Rattle.std.specs.Prelude.{All, slice_get}
use Rattle.mod_layout.specs.First.{first_in}
use Rattle.link_symbols.specs.Passes.{first_at}
use Rattle.std.specs.Option.{option_or}
use Rattle.std.specs.Bool.{then_some}
use Rattle.mod_layout.proofs.FirstLemmas.{both_none}

pub or_none : {A : Type 0} (a b : Option A) → a ≡ None → b ≡ None → option_or a b ≡ None
or_none None b e f = f
or_none (Some x) b e f = cc

pub in_none : {X A : Type 0} (f : X → Option A) (xs : List X) → first_in f xs ≡ None → All (λ x. f x ≡ None) xs
in_none f [] e k d l = absurd (omega arith)
in_none f (x ∷ xs) e zero d l = (both_none (f x) (first_in f xs) e).0
in_none f (x ∷ xs) e (suc k) d l = in_none f xs (both_none (f x) (first_in f xs) e).1 k d (omega arith)

pub none_in : {X A : Type 0} (f : X → Option A) (xs : List X) → All (λ x. f x ≡ None) xs → first_in f xs ≡ None
none_in f [] h = refl
none_in f (x ∷ xs) h = or_none (f x) (first_in f xs) (h 0 x (omega arith)) (none_in f xs (λ k d l. h (suc k) d (omega arith)))

pub none_from : {X A : Type 0} (f : ℕ → X → Option A) (i : ℕ) (xs : List X) →
    ((k : ℕ) (d : X) → k < length xs → f (i + k) (get_or xs k d) ≡ None) → first_at f i xs ≡ None
none_from f i [] h = refl
none_from f i (x ∷ xs) h =
    let z : i ≡ i + 0 = omega arith in
    or_none (f i x) (first_at f (i + 1) xs) (ap (λ (n : ℕ). f n x) z ∙ h 0 x (omega arith))
    (none_from f (i + 1) xs (λ k d l. let s : (i + 1) + k ≡ i + suc k = omega arith in ap (λ (n : ℕ). f n (get_or xs k d)) s ∙ h (suc k) d (omega arith)))

pub none_at : {X A : Type 0} (f : ℕ → X → Option A) (xs : List X) →
    ((k : ℕ) (d : X) → k < length xs → f k (get_or xs k d) ≡ None) → first_at f 0 xs ≡ None
none_at f xs h = none_from f 0 xs (λ k d l. let z : 0 + k ≡ k = omega arith in ap (λ (n : ℕ). f n (get_or xs k d)) z ∙ h k d l)

from_none : {X A : Type 0} (f : ℕ → X → Option A) (i : ℕ) (xs : List X) → first_at f i xs ≡ None → (k : ℕ) (d : X) →
    k < length xs → f (i + k) (get_or xs k d) ≡ None
from_none f i [] e k d l = absurd (omega arith)
from_none f i (x ∷ xs) e zero d l = let z : i + 0 ≡ i = omega arith in ap (λ (n : ℕ). f n x) z ∙ (both_none (f i x) (first_at f (i + 1) xs) e).0
from_none f i (x ∷ xs) e (suc k) d l =
    let z : i + suc k ≡ (i + 1) + k = omega arith in
    ap (λ (n : ℕ). f n (get_or xs k d)) z ∙ from_none f (i + 1) xs (both_none (f i x) (first_at f (i + 1) xs) e).1 k d (omega arith)

pub at_none : {X A : Type 0} (f : ℕ → X → Option A) (xs : List X) → first_at f 0 xs ≡ None → (k : ℕ) (d : X) →
    k < length xs → f k (get_or xs k d) ≡ None
at_none f xs e k d l = let z : k ≡ 0 + k = omega arith in ap (λ (n : ℕ). f n (get_or xs k d)) z ∙ from_none f 0 xs e k d l

-- ---- one condition

pub refused_not : {F : Type 0} (b : Bool) (f : F) → then_some b f ≡ None → b ≡ false
refused_not true f e = cc
refused_not false f e = refl

pub not_refused : {F : Type 0} (b : Bool) (f : F) → b ≡ false → then_some b f ≡ None
not_refused true f e = cc
not_refused false f e = refl

pub some_is : {A : Type 0} (o : Option A) → is_none o ≡ false → o ≢ None
some_is None e = cc
some_is (Some a) e = λ h. cc

pub is_some_by : {A : Type 0} (o : Option A) → o ≢ None → is_none o ≡ false
is_some_by None h = absurd (h refl)
is_some_by (Some a) h = refl

-- ---- the element at an index

pub got : {X : Type 0} (xs : List X) (k : ℕ) (x : X) → slice_get xs k ≡ Some x →
    (k < length xs) × ((d : X) → get_or xs k d ≡ x)
got [] k x e = cc
got (y ∷ ys) zero x e = (omega arith, λ d. cc)
got (y ∷ ys) (suc k) x e = let h = got ys k x e in (omega (arith, h.0), h.1)

pub gets : {X : Type 0} (xs : List X) (k : ℕ) (d : X) → k < length xs → slice_get xs k ≡ Some (get_or xs k d)
gets [] k d l = absurd (omega arith)
gets (y ∷ ys) zero d l = refl
gets (y ∷ ys) (suc k) d l = gets ys k d (omega arith)

-- the same by elements that are there
pub found_none : {X A : Type 0} (f : ℕ → X → Option A) (xs : List X) → first_at f 0 xs ≡ None → (k : ℕ) (x : X) →
    slice_get xs k ≡ Some x → f k x ≡ None
found_none f xs e k x g = let h = got xs k x g in ap (f k) (sym (h.1 x)) ∙ at_none f xs e k x h.0

pub none_found : {X A : Type 0} (f : ℕ → X → Option A) (xs : List X) →
    ((k : ℕ) (x : X) → slice_get xs k ≡ Some x → f k x ≡ None) → first_at f 0 xs ≡ None
none_found f xs h = none_at f xs (λ k d l. h k (get_or xs k d) (gets xs k d l))
