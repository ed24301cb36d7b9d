-- What a pool of pages holds: for each table its bytes, or nothing where it is not live.
use Rattle.std.specs.Prelude.{ℕ, List, Option, None, IsSome, get_or, replicate, length, ◌≡◌, ◌<◌}

-- the bytes of table t; none where it is not live, or is not there
abbrev pub table_of : List (Option (List ℕ)) → ℕ → Option (List ℕ)
table_of tables t = get_or tables t None

abbrev pub IsLive : List (Option (List ℕ)) → ℕ → Type 0
IsLive tables t = IsSome (table_of tables t)

-- that table t is there and not live
pub record IsUnused (tables : List (Option (List ℕ))) (t : ℕ) : Type 0 where
  pub there : t < length tables
  pub unused : table_of tables t ≡ None

-- n bytes 0
unfoldable pub zeros : ℕ → List ℕ
zeros n = replicate n 0
