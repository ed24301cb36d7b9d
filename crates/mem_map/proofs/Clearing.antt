-- Bytes cleared one after another.
use Rattle.std.proofs.Common.{◌≡◌, ℕ, zero, suc, ◌+◌, ◌-◌, ◌≤◌, List, [], ◌∷◌, set, refl, sym, ◌∙◌, ap, arith}
use Rattle.sm_words.specs.Words.{cleared}

-- one byte more is cleared behind those before it
pub cleared_more : (lo n : ℕ) (mem : List ℕ) → cleared lo (suc n) mem ≡ set (cleared lo n mem) (lo + n) 0
cleared_more zero zero [] = refl
cleared_more zero (suc n) (x ∷ xs) =
    let e : suc (0 + n) ≡ 0 + suc n = omega arith in
    ap (λ (l : List ℕ). 0 ∷ l) (cleared_more zero n xs) ∙ ap (λ (i : ℕ). set (0 ∷ cleared zero n xs) i 0) e
cleared_more (suc lo) zero (x ∷ xs) =
    let e : suc (lo + 0) ≡ suc lo + 0 = omega arith in
    ap (λ (l : List ℕ). x ∷ l) (cleared_more lo zero xs) ∙ ap (λ (i : ℕ). set (x ∷ xs) i 0) e
cleared_more (suc lo) (suc n) (x ∷ xs) =
    let e : suc (lo + suc n) ≡ suc lo + suc n = omega arith in
    ap (λ (l : List ℕ). x ∷ l) (cleared_more lo (suc n) xs) ∙ ap (λ (i : ℕ). set (x ∷ cleared lo (suc n) xs) i 0) e
cleared_more _ _ _ = refl

-- the byte at an address joins those cleared below it
pub cleared_next : (lo at : ℕ) (now before : List ℕ) → lo ≤ at → now ≡ cleared lo (at - lo) before → set now at 0 ≡ cleared lo (at + 1 - lo) before
cleared_next lo at now before h e =
    let k : suc (at - lo) ≡ at + 1 - lo = omega arith in
    let i : at ≡ lo + (at - lo) = omega arith in
    ap (λ (l : List ℕ). set l at 0) e ∙ ap (λ (j : ℕ). set (cleared lo (at - lo) before) j 0) i
    ∙ sym (cleared_more lo (at - lo) before) ∙ ap (λ (n : ℕ). cleared lo n before) k

-- to clear a byte, and then those behind it
pub cleared-set : (lo n : ℕ) (bytes : List ℕ) → cleared (lo + 1) n (set bytes lo 0) ≡ cleared lo (suc n) bytes
cleared-set zero zero [] = refl
cleared-set zero (suc n) [] = refl
cleared-set (suc lo) zero (x ∷ xs) = ap (λ (l : List ℕ). x ∷ l) (cleared-set lo zero xs)
cleared-set (suc lo) (suc n) (x ∷ xs) =
    let e : suc lo + 1 ≡ suc (lo + 1) = omega arith in
    ap (λ (i : ℕ). cleared i (suc n) (x ∷ set xs lo 0)) e ∙ ap (λ (l : List ℕ). x ∷ l) (cleared-set lo (suc n) xs)
cleared-set _ _ _ = refl
