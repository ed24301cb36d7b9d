-- What reading rows keeps from line to line.
use Rattle.std.proofs.Common.{ℕ, ◌≡◌, ◌+◌, ◌<◌, ◌≤◌, true, false, List, [], ◌∷◌, ◌++◌, length, get_or, nat_eq, nat_lt, Some, Result, Ok, Err, refl, ap, sym, ◌∙◌, append_assoc, append-nil, length-append, arith}
use Rattle.std.specs.List.{All, AllPairs}
use Rattle.std.proofs.lemmas.Bool.Decides.{nat_tests}
use Rattle.std.proofs.lemmas.List.Elements.{All-push}
use Rattle.std.proofs.lemmas.List.Quantifiers.{all_pairs_push}
use Rattle.texts.specs.Lines.{ended_lines, unended, lines_of}
use Rattle.texts.specs.Rows.{Rows, after_these, rows_from, rows_of}

pub record IsRead {X F : Type 0} (rows : Rows X F) (Is : X → Type 0) (text : List ℕ) (xs : List X) (rest : List ℕ) (n low : ℕ) : Type 0 where
  pub total : rows_of rows text ≡ after_these xs (rows_from rows n low (lines_of rest))
  pub counted : length xs + 1 ≡ n
  pub few : n ≤ rows.most + 1
  pub each : All Is xs
  pub below : All (λ x. rows.behind x ≤ low) xs
  pub apart : AllPairs (λ x y. rows.behind x ≤ rows.place y) xs

lines_none : lines_of [] ≡ []
unfolding ended_lines unended
lines_none = refl

module _ {X F : Type 0} (rows : Rows X F) (Is : X → Type 0) (text : List ℕ) where
  -- before the first line
  pub IsRead-start : IsRead rows Is text [] text 1 0
  IsRead-start = record {
    total = by (rows_of rows text);
    counted = refl;
    few = omega arith;
    each = λ k d h. absurd (omega (arith, h));
    below = λ k d h. absurd (omega (arith, h));
    apart = λ i j d h k. absurd (omega (arith, k));
  }
    where
      by : (r : Result (List X) F) → r ≡ after_these [] r
      by (Ok xs) = refl
      by (Err fault) = refl

  module _ (xs : List X) (rest line after : List ℕ) (n low : ℕ) (r : IsRead rows Is text xs rest n low) (cut : lines_of rest ≡ line ∷ lines_of after) where
    next : rows_of rows text ≡ after_these xs (rows_from rows n low (line ∷ lines_of after))
    next = r.total ∙ ap (λ ls. after_these xs (rows_from rows n low ls)) cut

    -- where a line is there that may not be
    pub IsRead-too_many : rows.most < n → rows_of rows text ≡ Err rows.too_many
    IsRead-too_many many = let few = r.few in let last : nat_eq n (rows.most + 1) ≡ true = grind (arith, nat_tests) in next ∙ rw last refl

    -- after one more line
    pub IsRead-push : (x : X) → n ≤ rows.most → rows.row_of line ≡ Some x → low ≤ rows.place x → rows.place x ≤ rows.behind x → Is x → IsRead rows Is text (xs ++ x ∷ []) after (n + 1) (rows.behind x)
    IsRead-push x few is rises goes sound = record {
      total = next ∙ one;
      counted = let old = r.counted in omega (arith, length-append xs (x ∷ []));
      few = omega arith;
      each = All-push Is xs x r.each sound;
      below = All-push (λ y. rows.behind y ≤ rows.behind x) xs x (λ k d h. let b : rows.behind (get_or xs k d) ≤ low = r.below k d h in omega arith) (omega arith);
      apart = all_pairs_push (λ y z. rows.behind y ≤ rows.place z) xs x r.apart (λ k d h. let b : rows.behind (get_or xs k d) ≤ low = r.below k d h in omega arith);
    }
      where
        by : (rs : Result (List X) F) → after_these xs (after_these (x ∷ []) rs) ≡ after_these (xs ++ x ∷ []) rs
        by (Ok more) = ap Ok (sym (append_assoc xs (x ∷ []) more))
        by (Err fault) = refl

        one : after_these xs (rows_from rows n low (line ∷ lines_of after)) ≡ after_these (xs ++ x ∷ []) (rows_from rows (n + 1) (rows.behind x) (lines_of after))
        one =
            let not_last : nat_eq n (rows.most + 1) ≡ false = grind (arith, nat_tests) in
            let not_below : nat_lt (rows.place x) low ≡ false = grind (arith, nat_tests) in
            rw (not_last, is, not_below) (by (rows_from rows (n + 1) (rows.behind x) (lines_of after)))

  -- after the last line
  pub IsRead-end : (xs : List X) (rest : List ℕ) (n low : ℕ) → IsRead rows Is text xs rest n low → rest ≡ [] → rows_of rows text ≡ Ok xs
  IsRead-end xs rest n low r e = r.total ∙ ap (λ t. after_these xs (rows_from rows n low (lines_of t))) e ∙ ap (λ ls. after_these xs (rows_from rows n low ls)) lines_none ∙ ap Ok (append-nil xs)
