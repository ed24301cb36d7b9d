-- Values for each index below a count, and for each element with its index.
use Rattle.std.proofs.Common.{◌≡◌, ℕ, zero, suc, ◌+◌, ◌<◌, List, [], ◌∷◌, ◌++◌, map, refl, ap, sym, ◌∙◌, arith, length, get_or}
use Rattle.std.specs.List.{flat_map, enumerate_from}
use Rattle.elf_objects.specs.Passes.{each_below, all_below}
use Rattle.elf_objects.proofs.PassLemmas.{length_each_below, at_each}
use Rattle.std.proofs.lemmas.List.{flat_map_more, map_push, ext_get_or}
use Rattle.std.proofs.lemmas.List.FromFn.{length-enumerate_from, get_or-enumerate_from}

-- two functions that agree below a count give the same values
pub each_below_same : {A : Type 0} (f g : ℕ → A) (n : ℕ) → ((k : ℕ) → k < n → f k ≡ g k) → each_below f n ≡ each_below g n
unfolding each_below
each_below_same f g zero same = refl
each_below_same f g (suc n) same = rw (each_below_same f g n (λ k lt. same k (omega arith)), same n (omega arith)) refl

-- what a function gives of each value, joined
pub flat_map_each : {A B : Type 0} (f : A → List B) (g : ℕ → A) (n : ℕ) → flat_map f (each_below g n) ≡ all_below (λ k. f (g k)) n
unfolding each_below all_below
flat_map_each f g zero = refl
flat_map_each f g (suc n) =
    sym (flat_map_more f [] (each_below g n) (g n)) ∙ ap (λ l. l ++ f (g n)) (flat_map_each f g n)

-- the same in a list
map_each : {A B : Type 0} (f : A → B) (g : ℕ → A) (n : ℕ) → map f (each_below g n) ≡ each_below (λ k. f (g k)) n
unfolding each_below
map_each f g zero = refl
map_each f g (suc n) = map_push f (each_below g n) (g n) ∙ ap (λ l. l ++ f (g n) ∷ []) (map_each f g n)

-- the elements with their indexes
enumerated : {A : Type 0} (xs : List A) (d : A) → enumerate_from 0 xs ≡ each_below {A = ℕ × A} (λ k. (k, get_or xs k d)) (length xs)
enumerated {A} xs d =
    let g : ℕ → ℕ × A = λ k. (k, get_or xs k d) in
    let past : ℕ × A = (0, d) in
    let n = length-enumerate_from 0 xs in
    let m = length_each_below g (length xs) in
    ext_get_or past (enumerate_from 0 xs) (each_below g (length xs)) (omega (arith, n, m))
    (λ k lt.
    let within : k < length xs = omega (arith, n) in
    let z : 0 + k ≡ k = omega arith in
    get_or-enumerate_from 0 xs k past within ∙ (ap {B = ℕ × A} (λ i. (i, get_or xs k d)) z ∙ sym (at_each g (length xs) k past within)))

-- what a function gives of each element and its index
pub each_numbered : {A B : Type 0} (f : ℕ → A → B) (xs : List A) (d : A)
    → map (λ (p : ℕ × A). f p.0 p.1) (enumerate_from 0 xs) ≡ each_below (λ k. f k (get_or xs k d)) (length xs)
each_numbered {A} f xs d =
    ap (map (λ (p : ℕ × A). f p.0 p.1)) (enumerated xs d) ∙ map_each (λ (p : ℕ × A). f p.0 p.1) (λ k. (k, get_or xs k d)) (length xs)

-- the same of lists, joined
pub all_numbered : {A B : Type 0} (f : ℕ → A → List B) (xs : List A) (d : A)
    → flat_map (λ (p : ℕ × A). f p.0 p.1) (enumerate_from 0 xs) ≡ all_below (λ k. f k (get_or xs k d)) (length xs)
all_numbered {A} f xs d =
    ap (flat_map (λ (p : ℕ × A). f p.0 p.1)) (enumerated xs d) ∙ flat_map_each (λ (p : ℕ × A). f p.0 p.1) (λ k. (k, get_or xs k d)) (length xs)
