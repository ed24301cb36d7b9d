-- Calls of an object in memory, by number from 0.
use Rattle.std.specs.Prelude.{ℕ, Bool, true, false, List, [], ◌∷◌, ◌==◌}
use Rattle.std.specs.List.{list_any}

-- whether a list of calls has this one
abbrev pub is_listed : List ℕ → ℕ → Bool
is_listed calls call = list_any (λ n. n == call) calls

abbrev pub has_no_call : List ℕ → Bool
has_no_call [] = true
has_no_call (n ∷ ns) = false
