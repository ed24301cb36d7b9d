-- The order of the symbols, and their places by name.
use Rattle.std.proofs.Common.{ℕ, zero, suc, ◌≡◌, ◌≢◌, ◌<◌, Bool, true, false, List, [], ◌∷◌, ◌++◌, length, get_or, set, Option, Some, None, is_some, nat_eq, refl, ap, sym, ◌∙◌, length-append, arith, ◌⊎◌, inl, inr}
use Rattle.std.specs.Prelude.{filter}
use Rattle.std.proofs.lemmas.Bool.Decides.{nat_tests}
use Rattle.std.proofs.lemmas.List.{length-set, length-map, get_or-set_other, get_or-set_same, get_or-map, same_lists, get_or_push}
use Rattle.std.proofs.lemmas.Grind.{common_steps}
use Rattle.asm_text.specs.internal.Numbering.{IsNumbering}
use Rattle.asm_text.specs.Symbols.{symbol_number, once_by, once, below, symbol_numbers}
use Rattle.asm_text.proofs.PlaceLemmas.{position_hit, position_miss}
use Rattle.asm_text.proofs.PlacedLemmas.{or_not}

pub once_there : (ks : List ℕ) (k : ℕ) → is_some (symbol_number ks k) ≡ true → ks ≡ once ks k
once_there ks k e = sym (ap (λ b. once_by b ks k) e)

pub once_new : (ks : List ℕ) (k : ℕ) → is_some (symbol_number ks k) ≡ false → ks ++ k ∷ [] ≡ once ks k
once_new ks k e = sym (ap (λ b. once_by b ks k) e)

none_of : {A : Type 0} (o : Option A) → is_some o ≡ false → o ≡ None
none_of None e = refl
none_of (Some a) e = absurd cc

pub numbering_more : (numbers : List (Option ℕ)) (order : List ℕ) (name number : ℕ) → IsNumbering numbers order → name < length numbers → is_some (symbol_number order name) ≡ false → number ≡ length order
    → IsNumbering (set numbers name (Some number)) (order ++ name ∷ [])
numbering_more numbers order name number are low none size k d within = by (or_not k name)
  where
    by : (k ≡ name) ⊎ (k ≢ name) → get_or (set numbers name (Some number)) k d ≡ symbol_number (order ++ name ∷ []) k
    by (inl same) =
        let hit : nat_eq name name ≡ true = grind (arith, nat_tests) in
        ap (λ j. get_or (set numbers name (Some number)) j d) same
        ∙ (get_or-set_same numbers name (Some number) d low
        ∙ (ap Some size
        ∙ (sym (position_hit (λ j. nat_eq j name) order name hit (none_of (symbol_number order name) none))
        ∙ ap (symbol_number (order ++ name ∷ [])) (sym same))))
    by (inr other) =
        let miss : nat_eq name k ≡ false = grind (arith, nat_tests) in
        let old : k < length numbers = omega (arith, length-set numbers name (Some number)) in
        get_or-set_other numbers name k (Some number) d other ∙ (are k d old ∙ sym (position_miss (λ j. nat_eq j k) order name miss))

-- ---- the numbers below n

pub length_below : (n : ℕ) → length (below n) ≡ n
length_below zero = refl
length_below (suc n) = length-append (below n) (n ∷ []) ∙ (let e = length_below n in omega arith)

pub below_at : (n k d : ℕ) → k < n → get_or (below n) k d ≡ k
below_at zero k d low = absurd (omega arith)
below_at (suc n) k d low = by (or_not k n) (λ l. below_at n k d l)
  where
    by : (k ≡ n) ⊎ (k ≢ n) → (k < n → get_or (below n) k d ≡ k) → get_or (below n ++ n ∷ []) k d ≡ k
    by (inl same) again = ap (λ j. get_or (below n ++ n ∷ []) j d) same ∙ (get_or_push (below n) n d n (length_below n) ∙ sym same)
    by (inr other) again =
        let within : k < length (below n) = let e = length_below n in omega arith in
        get_or-append_lt within ∙ again (omega arith)
      where
        get_or-append_lt : k < length (below n) → get_or (below n ++ n ∷ []) k d ≡ get_or (below n) k d
        get_or-append_lt within = grind (arith, common_steps)

pub all_numbers : (numbers : List (Option ℕ)) (order : List ℕ) (names : ℕ) → length numbers ≡ names → IsNumbering numbers order → numbers ≡ symbol_numbers order names
all_numbers numbers order names size are = same_lists numbers (symbol_numbers order names) lengths at
  where
    lengths : length numbers ≡ length (symbol_numbers order names)
    lengths = size ∙ (sym (length_below names) ∙ sym (length-map (below names) (symbol_number order)))

    at : (k : ℕ) (d : Option ℕ) → k < length numbers → get_or numbers k d ≡ get_or (symbol_numbers order names) k d
    at k d low =
        let within : k < length (below names) = let e = length_below names in omega arith in
        are k d low ∙ (ap (symbol_number order) (sym (below_at names k 0 (omega arith))) ∙ sym (get_or-map (symbol_number order) (below names) k 0 d within))

-- ---- local labels

pub same_filter : (f g : ℕ → Bool) (ks : List ℕ) → ((k : ℕ) (d : ℕ) → k < length ks → f (get_or ks k d) ≡ g (get_or ks k d)) → filter f ks ≡ filter g ks
same_filter f g [] h = refl
same_filter f g (k ∷ ks) h =
    let first : f k ≡ g k = h 0 0 (omega arith) in
    let rest : filter f ks ≡ filter g ks = same_filter f g ks (λ j d low. h (suc j) d (omega arith)) in
    rw (first, rest) refl
