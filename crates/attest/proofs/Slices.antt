-- On parts of a list.
use Rattle.std.proofs.Common.{◌≡◌, ℕ, ◌+◌, ◌-◌, ◌≤◌, List, ◌++◌, take, drop, sym, ◌∙◌, ap, arith, slice_range, take-take, drop-drop, drop-cons, suc, ◌∷◌, ◌<◌, length, slice_index, length-drop, length-take-le}
use Rattle.std.proofs.Math.Seq.{take-add}
use Rattle.std.proofs.lemmas.List.{drop-take}

-- two parts that meet
pub slice_range-join : (xs : List ℕ) (a b c : ℕ) → a ≤ b → b ≤ c → slice_range xs a b ++ slice_range xs b c ≡ slice_range xs a c
slice_range-join xs a b c h k =
    let e : c - a ≡ (b - a) + (c - b) = omega arith in
    let f : a + (b - a) ≡ b = omega arith in
    sym (ap (λ n. take n (drop a xs)) e ∙ take-add (b - a) (c - b) (drop a xs)
    ∙ ap (λ ys. take (b - a) (drop a xs) ++ take (c - b) ys) (drop-drop (b - a) a xs ∙ ap (λ n. drop n xs) f))

-- a part of a part
pub slice_range-inner : (xs : List ℕ) (a n low high : ℕ) → low ≤ high → high ≤ n →
    slice_range (slice_range xs a (a + n)) low high ≡ slice_range xs (a + low) (a + high)
slice_range-inner xs a n low high h k =
    let e : a + n - a ≡ low + (n - low) = omega arith in
    let f : a + high - (a + low) ≡ high - low = omega arith in
    ap (λ m. take (high - low) (drop low (take m (drop a xs)))) e
    ∙ ap (take (high - low)) (drop-take low (n - low) (drop a xs) ∙ ap (take (n - low)) (drop-drop low a xs))
    ∙ take-take (high - low) (n - low) (drop (a + low) xs) (omega arith)
    ∙ ap (λ m. take m (drop (a + low) xs)) (sym f)

-- a part begins with its first element
pub slice_range-cons : (xs : List ℕ) (a b : ℕ) → a < b → a < length xs → slice_range xs a b ≡ slice_index xs a ∷ slice_range xs (a + 1) b
slice_range-cons xs a b h k =
    let e : b - a ≡ suc (b - (a + 1)) = omega arith in
    let f : suc a ≡ a + 1 = omega arith in
    ap (take (b - a)) (drop-cons xs a 0 k)
    ∙ ap (λ n. take n (slice_index xs a ∷ drop (suc a) xs)) e
    ∙ ap (λ n. slice_index xs a ∷ take (b - (a + 1)) (drop n xs)) f

pub length-slice_range : (xs : List ℕ) (a b : ℕ) → a ≤ b → b ≤ length xs → length (slice_range xs a b) ≡ b - a
length-slice_range xs a b h k =
    let e : b - a ≤ length (drop a xs) = omega (arith, length-drop a xs) in
    length-take-le (b - a) (drop a xs) e
