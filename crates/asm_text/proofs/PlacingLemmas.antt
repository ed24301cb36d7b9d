-- Placing from line to line.
use Rattle.std.proofs.Common.{ℕ, suc, ◌≡◌, ◌+◌, ◌<◌, List, length, get_or, replicate, drop, Some, None, Ok, ap, ◌∙◌}
use Rattle.std.proofs.lemmas.List.{drop_more}
use Rattle.asm_text.specs.declared.placing.Spot.{Spot}
use Rattle.asm_line.specs.declared.statement.Statement.{Statement}
use Rattle.asm_text.specs.internal.Known.{AreKnown}
use Rattle.asm_text.specs.internal.Placed.{IsPlaced}
use Rattle.asm_text.specs.Placing.{Placed, nowhere, spot_of, placed, unrefused, placed_from}
use Rattle.asm_text.proofs.PlacedLemmas.{placed_kept}

pub record IsPlacing (names : ℕ) (statements : List (Statement ℕ)) (i : ℕ) (p : Placed) : Type 0 where
  pub total : placed_from 1 (nowhere names) statements ≡ placed_from (i + 1) p (drop i statements)
  pub kept : IsPlaced names p

pub no_spot : (names k : ℕ) (spot : Spot) → spot_of (replicate names None) k ≡ Some spot → ⊥
no_spot (suc names) (suc k) spot e = no_spot names k spot e
no_spot _ _ spot e = cc

next : (names : ℕ) (statements : List (Statement ℕ)) (i : ℕ) (p : Placed) (d : Statement ℕ) → IsPlacing names statements i p → i < length statements
    → placed_from 1 (nowhere names) statements ≡ unrefused (placed (i + 1) p (get_or statements i d)) (λ q. placed_from (i + 1 + 1) q (drop (i + 1) statements))
next names statements i p d g low = g.total ∙ ap (placed_from (i + 1) p) (drop_more statements i d low)

pub placing_more : (names : ℕ) (statements : List (Statement ℕ)) (i : ℕ) (p q : Placed) (d : Statement ℕ) → IsPlacing names statements i p → AreKnown names statements → i < length statements
    → placed (i + 1) p (get_or statements i d) ≡ Ok q → IsPlacing names statements (i + 1) q
placing_more names statements i p q d g known low e = record {
  total = next names statements i p d g low ∙ ap (λ r. unrefused r (λ x. placed_from (i + 1 + 1) x (drop (i + 1) statements))) e;
  kept = placed_kept names (i + 1) p q (get_or statements i d) g.kept (known i d low) e;
}
