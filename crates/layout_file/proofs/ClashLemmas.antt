-- The first pair of a list that clashes, and regions that share a byte.
use Rattle.std.proofs.Common.{◌≡◌, ℕ, ◌<◌, max, nat_lt, Bool, true, false, not, cond, List, [], ◌∷◌, ◌++◌, length, get_or, take, Option, Some, None, refl, subst, arith, append_assoc}
use Rattle.std.specs.Prelude.{AllPairs, MatchOption, position}
use Rattle.std.specs.List.{prefix_len}
use Rattle.std.proofs.lemmas.Bool.{and_from, not-true, le-leb, ltb-true, ltb-false, lt-ltb}
use Rattle.std.proofs.lemmas.List.{append-nil, take_at, get_or_at, get_or_append_left, length-append}
use Rattle.std.proofs.lemmas.List.Sums.{prefix_len_passes}
use Rattle.std.proofs.lemmas.List.Quantifiers.{all_pairs_push, position-Some}
use Rattle.mod_layout.specs.declared.Section.{Section}
use Rattle.mod_layout.specs.Table.{share_byte}
use Rattle.layout_file.specs.Clashes.{first_with, or_later, clash_after, first_clash}
use Rattle.layout_file.specs.Overlaps.{ShareByte, ShareNoByte, IsFirstOverlap}
use Rattle.mod_layout.proofs.Found.{ends_of}

none_before : {A : Type 0} (p : A → Bool) (xs : List A) → position p xs ≡ None → (k : ℕ) (d : A) → k < length xs → p (get_or xs k d) ≡ false
none_before p xs h k d inside = by (nat_lt (prefix_len (λ x. not (p x)) xs) (length xs)) refl h
  where
    by : (found : Bool) → nat_lt (prefix_len (λ x. not (p x)) xs) (length xs) ≡ found
        → cond found (Some (prefix_len (λ x. not (p x)) xs)) None ≡ None → p (get_or xs k d) ≡ false
    by true e h = absurd (cc)
    by false e h =
        let all = ltb-false _ _ e in
        not-true _ (prefix_len_passes (λ x. not (p x)) xs k d (omega arith))

pub AllPairs-weaker : {A : Type 0} (P Q : A → A → Type 0) → ((a b : A) → P a b → Q a b) → (xs : List A) → AllPairs P xs → AllPairs Q xs
AllPairs-weaker P Q step xs all i j d order inside = step (get_or xs i d) (get_or xs j d) (all i j d order inside)

pub ShareNoByte-share_byte : (a b : Section) → share_byte a b ≡ false → ShareNoByte a b
ShareNoByte-share_byte a b h addr inside other =
    let apart = ltb-false _ _ h in
    let here = ends_of a addr inside in
    let there = ends_of b addr other in
    absurd (omega arith)

-- ---- the first pair

record IsFirst {A : Type 0} (clash : A → A → Bool) (xs : List A) (pair : ℕ × ℕ) : Type 0 where
  earlier : pair.0 < pair.1
  inside : pair.1 < length xs
  clashes : (d : A) → clash (get_or xs pair.0 d) (get_or xs pair.1 d) ≡ true
  lowest_second : AllPairs (λ a b. clash a b ≡ false) (take pair.1 xs)
  lowest_first : (k : ℕ) (d : A) → k < pair.0 → clash (get_or xs k d) (get_or xs pair.1 d) ≡ false

IsFirst-here : {A : Type 0} (clash : A → A → Bool) (earlier : List A) (x : A) (xs : List A) (i : ℕ) → AllPairs (λ a b. clash a b ≡ false) earlier
    → first_with clash earlier x ≡ Some i → IsFirst clash (earlier ++ x ∷ xs) (i, length earlier)
IsFirst-here clash earlier x xs i pairs e =
    let found = λ (d : _). position-Some (λ y. clash y x) earlier i d e in
    record {
      earlier = (found x).0;
      inside = rw length-append (omega arith);
      clashes = λ d. rw (get_or_append_left earlier (x ∷ xs) d i (found x).0, get_or_at earlier x xs d (length earlier) refl) (found d).1;
      lowest_second = rw (take_at earlier (x ∷ xs) (length earlier) refl) pairs;
      lowest_first = λ k d below.
          let within : k < length earlier = omega (arith, (found x).0) in
          rw (get_or_append_left earlier (x ∷ xs) d k within, get_or_at earlier x xs d (length earlier) refl) ((found d).2 k below);
    }

-- no two clash, or this is the first pair that does
first_clash-says : {A : Type 0} (clash : A → A → Bool) (earlier xs : List A) → AllPairs (λ a b. clash a b ≡ false) earlier
    → MatchOption (clash_after clash earlier xs) (AllPairs (λ a b. clash a b ≡ false) (earlier ++ xs)) (IsFirst clash (earlier ++ xs))
first_clash-says clash earlier [] pairs = rw append-nil pairs
first_clash-says clash earlier (x ∷ xs) pairs = by (first_with clash earlier x) refl (first_clash-says clash (earlier ++ x ∷ []) xs)
  where
    by : (o : Option ℕ) → first_with clash earlier x ≡ o
        → (AllPairs (λ a b. clash a b ≡ false) (earlier ++ x ∷ []) → MatchOption (clash_after clash (earlier ++ x ∷ []) xs)
        (AllPairs (λ a b. clash a b ≡ false) ((earlier ++ x ∷ []) ++ xs)) (IsFirst clash ((earlier ++ x ∷ []) ++ xs)))
        → MatchOption (or_later o (length earlier) (clash_after clash (earlier ++ x ∷ []) xs))
        (AllPairs (λ a b. clash a b ≡ false) (earlier ++ x ∷ xs)) (IsFirst clash (earlier ++ x ∷ xs))
    by None e more =
        let front = all_pairs_push (λ a b. clash a b ≡ false) earlier x pairs (none_before (λ y. clash y x) earlier e) in
        let joined : (earlier ++ x ∷ []) ++ xs ≡ earlier ++ x ∷ xs = rw append_assoc refl in
        subst (λ l. MatchOption (clash_after clash (earlier ++ x ∷ []) xs) (AllPairs (λ a b. clash a b ≡ false) l) (IsFirst clash l)) joined (more front)
    by (Some i) e more = IsFirst-here clash earlier x xs i pairs e

first_pair : {A : Type 0} (clash : A → A → Bool) (xs : List A) → MatchOption (first_clash clash xs) (AllPairs (λ a b. clash a b ≡ false) xs) (IsFirst clash xs)
first_pair clash xs = first_clash-says clash [] xs (λ i j d order inside. absurd (omega arith))

pub AllPairs-first_clash : {A : Type 0} (clash : A → A → Bool) (xs : List A) → first_clash clash xs ≡ None → AllPairs (λ a b. clash a b ≡ false) xs
AllPairs-first_clash clash xs h =
    subst (λ o. MatchOption o (AllPairs (λ a b. clash a b ≡ false) xs) (IsFirst clash xs)) h (first_pair clash xs)

ShareByte-share_byte : (a b : Section) → share_byte a b ≡ true → ShareByte a b
ShareByte-share_byte a b h =
    let order = ltb-true _ _ h in
    let start = max a.start b.start in (
      start,
      and_from _ _ (le-leb a.start start (omega arith)) (lt-ltb start a.end (omega arith)),
      and_from _ _ (le-leb b.start start (omega arith)) (lt-ltb start b.end (omega arith)),
    )

pub overlaps-named : (regions : List Section)
    → MatchOption (first_clash share_byte regions) (AllPairs ShareNoByte regions) (IsFirstOverlap regions)
overlaps-named regions = by (first_clash share_byte regions) (first_pair share_byte regions)
  where
    apart : (xs : List Section) → AllPairs (λ a b. share_byte a b ≡ false) xs → AllPairs ShareNoByte xs
    apart = AllPairs-weaker (λ a b. share_byte a b ≡ false) ShareNoByte ShareNoByte-share_byte

    by : (o : Option (ℕ × ℕ)) → MatchOption o (AllPairs (λ a b. share_byte a b ≡ false) regions) (IsFirst share_byte regions)
        → MatchOption o (AllPairs ShareNoByte regions) (IsFirstOverlap regions)
    by None all = apart regions all
    by (Some pair) first = record {
      earlier = first.earlier;
      inside = first.inside;
      shared = λ d. ShareByte-share_byte _ _ (first.clashes d);
      lowest_second = apart (take pair.1 regions) first.lowest_second;
      lowest_first = λ k d below. ShareNoByte-share_byte _ _ (first.lowest_first k d below);
    }
