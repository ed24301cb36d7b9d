-- The first answer of several, as of refusals in their order.
use Rattle.std.specs.Prelude.{List, [], ◌∷◌, Option, None}
use Rattle.std.specs.Option.{option_or}

-- what the first element gives that gives something
abbrev pub first_in : {X A : Type 0} → (X → Option A) → List X → Option A
first_in f [] = None
first_in f (x ∷ xs) = option_or (f x) (first_in f xs)

-- the first answer that is there
abbrev pub first_of : {A : Type 0} → List (Option A) → Option A
first_of answers = first_in (λ answer. answer) answers
