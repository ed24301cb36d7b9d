-- A memory whose data section is cleared.
use Rattle.std.proofs.Common.{◌≡◌, ◌⊎◌, inl, inr, ⊎_elim, ℕ, zero, suc, ◌+◌, ◌-◌, ◌<◌, ◌≤◌, List, [], ◌∷◌, length, get_or, take, drop, set, refl, sym, ap, ◌∙◌, arith, get_or-take, get_or-drop}
use Rattle.sm_words.specs.Words.{cleared}
use Rattle.std.proofs.lemmas.List.{drop-set-add, take-set-le}
use Rattle.std.proofs.Math.Seq.{take-set-lt}

-- the address is outside the n bytes from lo on
abbrev pub Out : ℕ → ℕ → ℕ → Type 0
Out lo n a = lo ≤ a → lo + n ≤ a

pub get_cleared : (lo n : ℕ) (mem : List ℕ) (a : ℕ) → Out lo n a → get_or (cleared lo n mem) a 0 ≡ get_or mem a 0
get_cleared zero (suc n) (x ∷ xs) zero out = let k : 0 + suc n ≤ 0 = out (omega arith) in absurd (omega arith)
get_cleared zero (suc n) (x ∷ xs) (suc a) out = get_cleared zero n xs a (omega arith)
get_cleared (suc lo) (suc n) (x ∷ xs) (suc a) out = get_cleared lo (suc n) xs a (λ h. let k : suc lo + suc n ≤ suc a = out (omega arith) in omega arith)
get_cleared _ _ _ _ out = refl

pub set_cleared : (lo n : ℕ) (mem : List ℕ) (a v : ℕ) → Out lo n a → set (cleared lo n mem) a v ≡ cleared lo n (set mem a v)
set_cleared zero (suc n) (x ∷ xs) zero v out = let k : 0 + suc n ≤ 0 = out (omega arith) in absurd (omega arith)
set_cleared zero (suc n) (x ∷ xs) (suc a) v out = ap (λ l. 0 ∷ l) (set_cleared zero n xs a v (omega arith))
set_cleared (suc lo) (suc n) (x ∷ xs) (suc a) v out = ap (λ l. x ∷ l) (set_cleared lo (suc n) xs a v (λ h. let k : suc lo + suc n ≤ suc a = out (omega arith) in omega arith))
set_cleared _ _ _ _ v out = refl

pub cleared_set : (lo n : ℕ) (mem : List ℕ) (a v : ℕ) → lo ≤ a → a < lo + n → cleared lo n (set mem a v) ≡ cleared lo n mem
cleared_set lo (suc n) [] a v low high = refl
cleared_set zero (suc n) (x ∷ xs) zero v low high = refl
cleared_set zero (suc n) (x ∷ xs) (suc a) v low high = ap (λ l. 0 ∷ l) (cleared_set zero n xs a v (omega arith) (omega arith))
cleared_set (suc lo) (suc n) (x ∷ xs) (suc a) v low high = ap (λ l. x ∷ l) (cleared_set lo (suc n) xs a v (omega arith) (omega arith))
cleared_set _ _ _ _ v low high = absurd (omega arith)

pub length_cleared : (lo n : ℕ) (mem : List ℕ) → length (cleared lo n mem) ≡ length mem
length_cleared zero (suc n) (x ∷ xs) = ap suc (length_cleared zero n xs)
length_cleared (suc lo) (suc n) (x ∷ xs) = ap suc (length_cleared lo (suc n) xs)
length_cleared lo _ _ = refl

pub get_in_cleared : (lo n : ℕ) (mem : List ℕ) (a : ℕ) → lo ≤ a → a < lo + n → get_or (cleared lo n mem) a 0 ≡ 0
get_in_cleared lo (suc n) [] a low high = refl
get_in_cleared zero (suc n) (x ∷ xs) zero low high = refl
get_in_cleared zero (suc n) (x ∷ xs) (suc a) low high = get_in_cleared zero n xs a (omega arith) (omega arith)
get_in_cleared (suc lo) (suc n) (x ∷ xs) (suc a) low high = get_in_cleared lo (suc n) xs a (omega arith) (omega arith)
get_in_cleared _ _ _ _ low high = absurd (omega arith)

-- the section's own bytes
pub part_set_in : (lo n : ℕ) (mem : List ℕ) (a v : ℕ) → lo ≤ a → a < lo + n → take n (drop lo (set mem a v)) ≡ set (take n (drop lo mem)) (a - lo) v
part_set_in lo n mem a v low high =
    let e : a ≡ lo + (a - lo) = omega arith in
    let d = drop-set-add lo mem (a - lo) v in
    ap (λ i. take n (drop lo (set mem i v))) e ∙ ap (take n) d ∙ take-set-lt n (drop lo mem) (a - lo) v (omega arith)

pub part_set_out : (lo n : ℕ) (mem : List ℕ) (a v : ℕ) → Out lo n a → take n (drop lo (set mem a v)) ≡ take n (drop lo mem)
part_set_out zero n mem a v out = take-set-le n mem a v (omega arith)
part_set_out (suc lo) n (x ∷ xs) (suc a) v out = part_set_out lo n xs a v (λ h. let k : suc lo + n ≤ suc a = out (omega arith) in omega arith)
part_set_out (suc lo) n _ _ v out = refl

pub get_part : (lo n : ℕ) (mem : List ℕ) (a : ℕ) → lo ≤ a → a < lo + n → get_or mem a 0 ≡ get_or (take n (drop lo mem)) (a - lo) 0
get_part lo n mem a low high =
    let e : lo + (a - lo) ≡ a = omega arith in
    sym (get_or-take n (drop lo mem) (a - lo) 0 (omega arith) ∙ get_or-drop lo mem (a - lo) 0 ∙ ap (λ i. get_or mem i 0) e)

pub cleared_comm : (a n b k : ℕ) (mem : List ℕ) → cleared a n (cleared b k mem) ≡ cleared b k (cleared a n mem)
cleared_comm zero (suc n) zero (suc k) (x ∷ xs) = ap (λ l. 0 ∷ l) (cleared_comm zero n zero k xs)
cleared_comm zero (suc n) (suc b) (suc k) (x ∷ xs) = ap (λ l. 0 ∷ l) (cleared_comm zero n b (suc k) xs)
cleared_comm (suc a) (suc n) zero (suc k) (x ∷ xs) = ap (λ l. 0 ∷ l) (cleared_comm a (suc n) zero k xs)
cleared_comm (suc a) (suc n) (suc b) (suc k) (x ∷ xs) = ap (λ l. x ∷ l) (cleared_comm a (suc n) b (suc k) xs)
cleared_comm a _ b _ _ = refl

-- clearing what is past or before the section leaves its bytes
pub part_cleared : (lo n a k : ℕ) (mem : List ℕ) → (a + k ≤ lo) ⊎ (lo + n ≤ a) → take n (drop lo (cleared a k mem)) ≡ take n (drop lo mem)
part_cleared zero n zero (suc k) (x ∷ xs) h =
    let z : n ≡ 0 = ⊎_elim (λ p. omega arith) (λ p. omega arith) h in rw z refl
part_cleared (suc lo) n zero (suc k) (x ∷ xs) h = part_cleared lo n zero k xs (⊎_elim (λ p. inl (omega arith)) (λ p. absurd (omega arith)) h)
part_cleared zero zero (suc a) (suc k) (x ∷ xs) h = refl
part_cleared zero (suc n) (suc a) (suc k) (x ∷ xs) h = ap (λ l. x ∷ l) (part_cleared zero n a (suc k) xs (⊎_elim (λ p. absurd (omega arith)) (λ p. inr (omega arith)) h))
part_cleared (suc lo) n (suc a) (suc k) (x ∷ xs) h = part_cleared lo n a (suc k) xs (⊎_elim (λ p. inl (omega arith)) (λ p. inr (omega arith)) h)
part_cleared lo n a _ _ h = refl
