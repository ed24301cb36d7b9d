-- The order of the symbols has each name once.
use Rattle.std.proofs.Common.{ℕ, zero, suc, ◌≡◌, ◌≢◌, ◌<◌, Bool, true, false, cond, List, [], ◌∷◌, length, get_or, Option, Some, None, is_some, nat_eq, refl, arith}
use Rattle.std.specs.Prelude.{fold, filter}
use Rattle.std.specs.List.{AllPairs, position_or_len}
use Rattle.std.proofs.lemmas.Bool.Decides.{nat_tests}
use Rattle.std.proofs.lemmas.List.Elements.{All-push}
use Rattle.std.proofs.lemmas.List.Quantifiers.{all_pairs_push}
use Rattle.std.proofs.lemmas.List.Sums.{fails_before_first}
use Rattle.asm_line.specs.declared.statement.Statement.{Statement}
use Rattle.asm_text.specs.internal.Numbering.{AreBelow}
use Rattle.asm_text.specs.Placing.{Placed}
use Rattle.asm_text.specs.Symbols.{local_labels, symbol_number, once_by, once, below, order_of}
use Rattle.asm_text.proofs.OrderLemmas.{length_below, below_at}
use Rattle.asm_text.proofs.PlaceLemmas.{place_none}

pub record IsOrder (names : ℕ) (order : List ℕ) : Type 0 where
  pub low : AreBelow names order
  pub differ : AllPairs (λ a b. a ≢ b) order

not_there : (order : List ℕ) (k : ℕ) → symbol_number order k ≡ None → (j d : ℕ) → j < length order → get_or order j d ≢ k
not_there order k none j d low same =
    let past : position_or_len (λ x. nat_eq x k) order ≡ length order = place_none (λ x. nat_eq x k) order none in
    let miss : nat_eq (get_or order j d) k ≡ false = fails_before_first (λ x. nat_eq x k) order j d (omega arith) in
    grind (arith, nat_tests)

once_kept : (names : ℕ) (order : List ℕ) (k : ℕ) → IsOrder names order → k < names → IsOrder names (once order k)
once_kept names order k o low = by (symbol_number order k) refl
  where
    by : (found : Option ℕ) → symbol_number order k ≡ found → IsOrder names (once_by (is_some found) order k)
    by (Some i) is = o
    by None is = record { low = All-push (λ x. x < names) order k o.low low; differ = all_pairs_push (λ (a b : ℕ). a ≢ b) order k o.differ (not_there order k is) }

pub fold_kept : (names : ℕ) (order ks : List ℕ) → IsOrder names order → AreBelow names ks → IsOrder names (fold once order ks)
fold_kept names order [] o low = o
fold_kept names order (k ∷ ks) o low = fold_kept names (once order k) ks (once_kept names order k o (low 0 0 (omega arith))) (λ j d h. low (suc j) d (omega arith))

pub below_low : (n : ℕ) → AreBelow n (below n)
below_low n k d h = let e = length_below n in let at = below_at n k d (omega arith) in omega arith

filter_low : (f : ℕ → Bool) (n : ℕ) (ks : List ℕ) → AreBelow n ks → AreBelow n (filter f ks)
filter_low f n [] low = low
filter_low f n (k ∷ ks) low = by (f k) (filter_low f n ks (λ j d h. low (suc j) d (omega arith)))
  where
    by : (c : Bool) → AreBelow n (filter f ks) → AreBelow n (cond c (k ∷ filter f ks) (filter f ks))
    by true rest zero d h = low 0 d (omega arith)
    by true rest (suc j) d h = rest j d (omega arith)
    by false rest j d h = rest j d h

pub order_kept : (statements : List (Statement ℕ)) (p : Placed) (names : ℕ) → AreBelow names p.labels → IsOrder names (order_of statements p names)
unfolding order_of
order_kept statements p names low =
    fold_kept names (fold once [] (local_labels statements p.labels)) (below names)
    (fold_kept names [] (local_labels statements p.labels) (record { low = λ k d h. absurd (omega (arith, h)); differ = λ i j d h k. absurd (omega (arith, k)) }) (filter_low _ names p.labels low))
    (below_low names)
