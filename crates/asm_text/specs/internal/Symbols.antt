-- What the code's own invariants say of: Symbols.
use Rattle.std.specs.Prelude.{ℕ, Bool, false, not, List, slice_index_or}

-- whether these say of a name that it is not global
abbrev pub is_local_name : List Bool → ℕ → Bool
is_local_name globals k = not (slice_index_or globals k false)
