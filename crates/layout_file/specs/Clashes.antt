-- Two values of a list that may not stand together.
use Rattle.std.specs.Prelude.{ℕ, Bool, List, [], ◌∷◌, ◌++◌, length, Option, Some, None, position}

-- the first pair, or else the later one
abbrev pub or_later : Option ℕ → ℕ → Option (ℕ × ℕ) → Option (ℕ × ℕ)
or_later None second later = later
or_later (Some first) second later = Some (first, second)

module _ {A : Type 0} (clash : A → A → Bool) where
  -- the lowest of the earlier values that may not stand with x
  abbrev pub first_with : List A → A → Option ℕ
  first_with earlier x = position (λ y. clash y x) earlier

  -- the lowest value of xs that may not stand with an earlier one, after the lowest such
  abbrev pub clash_after : List A → List A → Option (ℕ × ℕ)
  clash_after earlier [] = None
  clash_after earlier (x ∷ xs) = or_later (first_with earlier x) (length earlier) (clash_after (earlier ++ x ∷ []) xs)

  abbrev pub first_clash : List A → Option (ℕ × ℕ)
  first_clash xs = clash_after [] xs
