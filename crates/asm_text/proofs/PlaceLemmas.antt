-- Where a name stands in a list of names.
use Rattle.std.proofs.Common.{ℕ, ◌≡◌, ◌+◌, ◌≤◌, Bool, true, false, cond, not, List, [], ◌∷◌, ◌++◌, length, length-append, Option, Some, None, nat_lt, nat_eq, position, refl, ap, sym, subst, ◌∙◌, arith}
use Rattle.std.specs.List.{position_or_len}
use Rattle.std.specs.Prelude.{bytes_eq}
use Rattle.std.specs.Borrow.{Bor}
use Rattle.asm_text.specs.internal.Maps.{texts_in}
use Rattle.std.proofs.lemmas.Bool.Decides.{nat_tests}
use Rattle.std.proofs.lemmas.List.{length-map}
use Rattle.std.proofs.lemmas.List.Folds.{position_or_len_push}
use Rattle.std.proofs.lemmas.List.Sums.{prefix_len-le-length}
use Rattle.std.proofs.lemmas.Slice.Eq.{bytes_eq-Decides}

abbrev found_at : ℕ → ℕ → Option ℕ
found_at place size = cond (nat_lt place size) (Some place) None

pushed_hit : (place size : ℕ) → place ≤ size → found_at place size ≡ None → found_at (cond (nat_eq place size) (size + 0) place) (size + 1) ≡ Some size
pushed_hit place size most none = by (nat_lt place size) refl none
  where
    by : (c : Bool) → nat_lt place size ≡ c → cond c (Some place) None ≡ None → found_at (cond (nat_eq place size) (size + 0) place) (size + 1) ≡ Some size
    by true is e = absurd cc
    by false is e =
        let same : place ≡ size = grind (arith, nat_tests) in
        let yes : nat_eq place size ≡ true = grind (arith, nat_tests) in
        let plus : size + 0 ≡ size = omega arith in
        let low : nat_lt size (size + 1) ≡ true = grind (arith, nat_tests) in
        rw (yes, plus, low) refl

pushed_miss : (place size : ℕ) → place ≤ size → found_at (cond (nat_eq place size) (size + 1) place) (size + 1) ≡ found_at place size
pushed_miss place size most = by (nat_eq place size) refl
  where
    by : (c : Bool) → nat_eq place size ≡ c → found_at (cond c (size + 1) place) (size + 1) ≡ found_at place size
    by true is =
        let past : nat_lt (size + 1) (size + 1) ≡ false = grind (arith, nat_tests) in
        let too : nat_lt place size ≡ false = grind (arith, nat_tests) in
        rw (past, too) refl
    by false is =
        let low : nat_lt place (size + 1) ≡ nat_lt place size = by_lt (nat_lt place size) refl is in
        ap (λ b. cond b (Some place) None) low
      where
        by_lt : (c : Bool) → nat_lt place size ≡ c → nat_eq place size ≡ false → nat_lt place (size + 1) ≡ c
        by_lt true lt ne = grind (arith, nat_tests)
        by_lt false ge ne = absurd (grind (arith, nat_tests))

module _ {X : Type 0} (p : X → Bool) (xs : List X) (y : X) where
  most : position_or_len p xs ≤ length xs
  most = prefix_len-le-length (λ x. not (p x)) xs

  size : length (xs ++ y ∷ []) ≡ length xs + 1
  size = length-append xs (y ∷ [])

  pushed : (b : Bool) → p y ≡ b → position p (xs ++ y ∷ []) ≡ found_at (cond (nat_eq (position_or_len p xs) (length xs)) (length xs + cond b 0 1) (position_or_len p xs)) (length xs + 1)
  pushed b is =
      ap (λ n. found_at (position_or_len p (xs ++ y ∷ [])) n) size
      ∙ ap (λ n. found_at n (length xs + 1)) (position_or_len_push p xs y)
      ∙ ap (λ c. found_at (cond (nat_eq (position_or_len p xs) (length xs)) (length xs + cond c 0 1) (position_or_len p xs)) (length xs + 1)) is

  -- one more that passes, where none did
  pub position_hit : p y ≡ true → position p xs ≡ None → position p (xs ++ y ∷ []) ≡ Some (length xs)
  position_hit is none = pushed true is ∙ pushed_hit (position_or_len p xs) (length xs) most none

  -- one more that does not pass
  pub position_miss : p y ≡ false → position p (xs ++ y ∷ []) ≡ position p xs
  position_miss is = pushed false is ∙ pushed_miss (position_or_len p xs) (length xs) most

-- a place where nothing was found
pub place_none : {X : Type 0} (p : X → Bool) (xs : List X) → position p xs ≡ None → position_or_len p xs ≡ length xs
place_none p xs none = by (nat_lt (position_or_len p xs) (length xs)) refl none
  where
    by : (c : Bool) → nat_lt (position_or_len p xs) (length xs) ≡ c → cond c (Some (position_or_len p xs)) None ≡ None → position_or_len p xs ≡ length xs
    by true is e = absurd cc
    by false is e = let top = prefix_len-le-length (λ x. not (p x)) xs in grind (arith, nat_tests)

-- an index of names after one more
pub indexed_more : (names : List (List ℕ)) (name q : List ℕ) (old : Option ℕ) → old ≡ position (λ n. bytes_eq n q) names → position (λ n. bytes_eq n name) names ≡ None
    → cond (bytes_eq name q) (Some (length names)) old ≡ position (λ n. bytes_eq n q) (names ++ name ∷ [])
indexed_more names name q old was none = by (bytes_eq name q) refl
  where
    by : (b : Bool) → bytes_eq name q ≡ b → cond b (Some (length names)) old ≡ position (λ n. bytes_eq n q) (names ++ name ∷ [])
    by true is =
        let same : name ≡ q = (bytes_eq-Decides name q).0 is in
        sym (position_hit (λ n. bytes_eq n q) names name is (subst (λ (l : List ℕ). position (λ n. bytes_eq n l) names ≡ None) same none))
    by false is = was ∙ sym (position_miss (λ n. bytes_eq n q) names name is)

pub length_texts : (names : List (Bor (List ℕ))) → length (texts_in names) ≡ length names
length_texts names = length-map names (λ (name : Bor (List ℕ)). name.now)

pub texts_more : (names : List (Bor (List ℕ))) (name : Bor (List ℕ)) → texts_in (names ++ name ∷ []) ≡ texts_in names ++ name.now ∷ []
texts_more [] name = refl
texts_more (n ∷ names) name = ap (λ ns. n.now ∷ ns) (texts_more names name)
