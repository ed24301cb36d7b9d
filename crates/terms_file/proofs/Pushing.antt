-- Lists that are put together in a loop, and the registers that a text names.
use Rattle.std.proofs.Common.{◌≡◌, ℕ, ◌+◌, ◌<◌, List, ◌++◌, length, get_or, drop, sym, ap, ◌∙◌, append_assoc}
use Rattle.std.proofs.lemmas.List.{drop_more}
use Rattle.std.specs.List.{flat_map}

-- one more element
pub flat_more : {X : Type 0} (f : X → List ℕ) (xs : List X) (i : ℕ) (d : X) (old new whole : List ℕ) → i < length xs
    → old ++ flat_map f (drop i xs) ≡ whole → new ≡ old ++ f (get_or xs i d) → new ++ flat_map f (drop (i + 1) xs) ≡ whole
flat_more f xs i d old new whole lt e made =
    ap (λ l. l ++ flat_map f (drop (i + 1) xs)) made ∙ append_assoc old (f (get_or xs i d)) (flat_map f (drop (i + 1) xs))
    ∙ ap (λ l. old ++ flat_map f l) (sym (drop_more xs i d lt)) ∙ e
