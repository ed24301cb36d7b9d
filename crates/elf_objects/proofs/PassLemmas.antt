-- Passes over all indexes.
use Rattle.std.proofs.Common.{◌≡◌, ℕ, zero, suc, ◌+◌, ◌<◌, ◌≤◌, List, [], ◌∷◌, ◌++◌, Option, Some, None, refl, ap, sym, ◌∙◌, ◌⊎◌, inl, inr, arith, add-one, length, length-append, get_or}
use Rattle.std.proofs.Math.ListN.{get_or-append}
use Rattle.std.proofs.Math.Seq.{get_or-append_seam}
use Rattle.elf_objects.specs.Passes.{first_below, each_below, all_below}
use Rattle.std.proofs.lemmas.Bool.{cases_lt}

-- nothing is found below an index, nor at it
pub first_below_more : {A : Type 0} (f : ℕ → Option A) (i : ℕ) → first_below f i ≡ None → f i ≡ None → first_below f (i + 1) ≡ None
unfolding first_below
first_below_more f i below here = rw (add-one, below) here

-- the rest after an index
first_below_from : {A : Type 0} (f : ℕ → Option A) (n i : ℕ) (x : A) → (i < n) ⊎ (n ≤ i) → i < suc n → first_below f i ≡ None → f i ≡ Some x → (i < n → first_below f n ≡ Some x) → first_below f (suc n) ≡ Some x
unfolding first_below
first_below_from f n i x (inl lt) within below here rest = rw (rest lt) refl
first_below_from f n i x (inr le) within below here rest =
    let e : i ≡ n = omega arith in
    let b : first_below f n ≡ None = ap (first_below f) (sym e) ∙ below in
    rw b (ap f (sym e) ∙ here)

-- what is found first is what is given
pub first_below_found : {A : Type 0} (f : ℕ → Option A) (n i : ℕ) (x : A) → i < n → first_below f i ≡ None → f i ≡ Some x → first_below f n ≡ Some x
first_below_found f zero i x lt below here = absurd (omega arith)
first_below_found f (suc n) i x lt below here = first_below_from f n i x (cases_lt i n) lt below here (λ k. first_below_found f n i x k below here)

pub first_below_zero : {A : Type 0} (f : ℕ → Option A) → first_below f 0 ≡ None
unfolding first_below
first_below_zero f = refl

pub each_below_more : {A : Type 0} (f : ℕ → A) (i : ℕ) → each_below f (i + 1) ≡ each_below f i ++ f i ∷ []
unfolding each_below
each_below_more f i = rw add-one refl

pub each_below_zero : {A : Type 0} (f : ℕ → A) → each_below f 0 ≡ []
unfolding each_below
each_below_zero f = refl

pub all_below_more : {A : Type 0} (f : ℕ → List A) (i : ℕ) → all_below f (i + 1) ≡ all_below f i ++ f i
unfolding all_below
all_below_more f i = rw add-one refl

pub all_below_zero : {A : Type 0} (f : ℕ → List A) → all_below f 0 ≡ []
unfolding all_below
all_below_zero f = refl

pub length_each_below : {A : Type 0} (f : ℕ → A) (n : ℕ) → length (each_below f n) ≡ n
unfolding each_below
length_each_below f zero = refl
length_each_below f (suc n) = simp (length-append, length_each_below f n) (omega arith)

at_each_by : {A : Type 0} (f : ℕ → A) (n i : ℕ) (d : A) → (i < n) ⊎ (n ≤ i) → i < suc n → (i < n → get_or (each_below f n) i d ≡ f i) → get_or (each_below f n ++ f n ∷ []) i d ≡ f i
at_each_by f n i d (inl lt) within rest = get_or-append (each_below f n) (f n ∷ []) d i (let e = length_each_below f n in omega (arith, e)) ∙ rest lt
at_each_by f n i d (inr le) within rest =
    let e = length_each_below f n in
    let same : i ≡ length (each_below f n) = omega (arith, e) in
    let k : n ≡ i = omega arith in
    ap (λ (j : ℕ). get_or (each_below f n ++ f n ∷ []) j d) same ∙ (get_or-append_seam (each_below f n) (f n) [] d ∙ ap f k)

-- the value at an index
pub at_each : {A : Type 0} (f : ℕ → A) (n i : ℕ) (d : A) → i < n → get_or (each_below f n) i d ≡ f i
unfolding each_below
at_each f zero i d lt = absurd (omega arith)
at_each f (suc n) i d lt = at_each_by f n i d (cases_lt i n) lt (at_each f n i d)
