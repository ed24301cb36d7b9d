-- The words of a line, and a word before a byte that cuts it off.
use Rattle.std.proofs.Common.{ℕ, suc, ◌≡◌, ◌+◌, ◌^◌, ◌<◌, ◌≤◌, Bool, true, false, cond, ◌==◌, List, [], ◌∷◌, ◌++◌, length, take, drop, get_or, nat_lt, Some, None, position, refl, ap, subst, arith}
use Rattle.std.specs.List.{All, slice_split, before_first, after_first, position_or_len}
use Rattle.std.specs.Fmt.{decimal}
use Rattle.std.proofs.lemmas.Bool.Decides.{nat_tests}
use Rattle.std.proofs.lemmas.Fmt.{digits_decimal}
use Rattle.std.proofs.lemmas.List.Splits.{slice_split_first, slice_split_none}
use Rattle.std.proofs.lemmas.List.Sums.{fails_before_first}
use Rattle.std.proofs.lemmas.Str.Parse.{not_in_digits}
use Rattle.std.proofs.lemmas.Grind.{get_or_default_zero}
use Rattle.texts.specs.Words.{is_space, words}
use Rattle.texts.proofs.DecimalLemmas.{digits_model}

-- a line whose first space is at i
pub words_at : (line : List ℕ) (i : ℕ) → position is_space line ≡ Some i → words line ≡ take i line ∷ words (drop (i + 1) line)
unfolding words
words_at line i e = by (nat_lt (position_or_len is_space line) (length line)) refl e
  where
    by : (found : Bool) → nat_lt (position_or_len is_space line) (length line) ≡ found → cond found (Some (position_or_len is_space line)) None ≡ Some i
        → slice_split is_space line ≡ take i line ∷ slice_split is_space (drop (i + 1) line)
    by true is some =
        let same : position_or_len is_space line ≡ i = cc in
        subst (λ k. slice_split is_space line ≡ take k line ∷ slice_split is_space (drop (k + 1) line)) same (slice_split_first is_space line 0 (grind (arith, nat_tests)))
    by false is none = absurd cc

-- a line without a space is one word
pub words_whole : (line : List ℕ) → position is_space line ≡ None → words line ≡ line ∷ []
unfolding words
words_whole line e = by (nat_lt (position_or_len is_space line) (length line)) refl e
  where
    by : (found : Bool) → nat_lt (position_or_len is_space line) (length line) ≡ found → cond found (Some (position_or_len is_space line)) None ≡ None → slice_split is_space line ≡ line ∷ []
    by true is some = absurd cc
    by false is none =
        let past : length line ≤ position_or_len is_space line = grind (arith, nat_tests) in
        slice_split_none is_space line (λ k d l. fails_before_first is_space line k d (omega arith))

-- a text that is cut after this word, before this rest
pub record IsCutOff (cuts : ℕ → Bool) (text word rest : List ℕ) : Type 0 where
  pub before : before_first cuts text ≡ word
  pub after : after_first cuts text ≡ rest

module _ (cuts : ℕ → Bool) (byte : ℕ) (rest : List ℕ) (here : cuts byte ≡ true) where
  first_place : (word : List ℕ) → All (λ b. cuts b ≡ false) word → position_or_len cuts (word ++ byte ∷ rest) ≡ length word
  first_place [] clean = rw here refl
  first_place (b ∷ word) clean =
      let first = clean 0 0 (omega arith) in
      let more = first_place word (λ k d l. clean (suc k) d (omega arith)) in
      rw first (omega (arith, more))

  take_seam : (word : List ℕ) → take (length word) (word ++ byte ∷ rest) ≡ word
  take_seam [] = refl
  take_seam (b ∷ word) = ap (λ l. b ∷ l) (take_seam word)

  drop_seam : (word : List ℕ) → drop (suc (length word)) (word ++ byte ∷ rest) ≡ rest
  drop_seam [] = refl
  drop_seam (b ∷ word) = drop_seam word

  -- a text of a word without such a byte, the byte, and a rest
  pub cut_off : (word : List ℕ) → All (λ b. cuts b ≡ false) word → IsCutOff cuts (word ++ byte ∷ rest) word rest
  cut_off word clean =
      let place = first_place word clean in
      let next : length word + 1 ≡ suc (length word) = omega arith in
      record { before = rw place (take_seam word); after = rw (place, next) (drop_seam word) }

-- a decimal has no byte but digits
pub decimal_has_no : (byte n : ℕ) → byte < 48 → n < 2 ^ 64 → All (λ b. (b == byte) ≡ false) (decimal n)
decimal_has_no byte n other small k d l =
    let e : get_or (decimal n) k d ≡ get_or (decimal n) k 0 = get_or_default_zero (decimal n) k d l in
    rw e (by (get_or (decimal n) k 0) (not_in_digits digits_model (decimal n) byte (digits_decimal digits_model n small) (λ r. absurd (omega (arith, r.0))) k l))
  where
    by : (b : ℕ) → (b ≡ byte → ⊥) → (b == byte) ≡ false
    by b ne = grind (arith, nat_tests)
