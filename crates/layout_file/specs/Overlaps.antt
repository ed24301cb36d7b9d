-- What it is that two regions share a byte, by addresses.
use Rattle.std.specs.Prelude.{◌≡◌, ℕ, ◌<◌, true, List, length, take, slice_index_or, AllPairs}
use Rattle.mod_layout.specs.declared.Section.{Section}
use Rattle.mod_layout.specs.Table.{holds}

-- an address is in both
abbrev pub ShareByte : Section → Section → Type 0
ShareByte a b = (addr : ℕ) × (holds a addr ≡ true) × (holds b addr ≡ true)

-- no address is in both
abbrev pub ShareNoByte : Section → Section → Type 0
ShareNoByte a b = (addr : ℕ) → holds a addr ≡ true → holds b addr ≡ true → ⊥

-- the second is the lowest region that shares a byte with an earlier one, and the first is the lowest such
pub record IsFirstOverlap (regions : List Section) (pair : ℕ × ℕ) : Type 0 where
  pub earlier : pair.0 < pair.1
  pub inside : pair.1 < length regions
  pub shared : (d : Section) → ShareByte (slice_index_or regions pair.0 d) (slice_index_or regions pair.1 d)
  pub lowest_second : AllPairs ShareNoByte (take pair.1 regions)
  pub lowest_first : (k : ℕ) (d : Section) → k < pair.0 → ShareNoByte (slice_index_or regions k d) (slice_index_or regions pair.1 d)
