-- What the code's lists of addresses and ends hold while it places the items.
use Rattle.std.specs.Prelude.{zero, suc, filter, ℕ, ◌≡◌, List, length, Option, Some, None, All, ◌<◌, slice_get, slice_index, option_and_then}
use Rattle.link_symbols.specs.declared.item.Part.{Part}
use Rattle.link_symbols.specs.declared.item.Item.{Item}
use Rattle.linker.specs.Placement.{items_end, goes_to, address_at}

-- where a part starts: where those of lower rank in its region end
unfoldable pub part_start : List ℕ → List Item → ℕ → ℕ → ℕ
part_start starts items region zero = slice_index starts region
part_start starts items region (suc rank) = items_end (part_start starts items region rank) (filter (goes_to region rank) items)

abbrev pub BelowBy : ℕ → Option Part → Type 0
BelowBy rank None = ⊥
BelowBy rank (Some p) = p.rank < rank

-- the part that the k-th item is in, if any
abbrev pub own_part : List Item → ℕ → Option Part
own_part items k = option_and_then (λ i. i.part) (slice_get items k)

-- the k-th item is in a part of lower rank
abbrev pub RankBelow : ℕ → List Item → ℕ → Type 0
RankBelow rank items k = BelowBy rank (own_part items k)

-- the items of lower rank stand, and this is where those of this rank begin
pub record PlacedBelow (starts : List ℕ) (items : List Item) (rank : ℕ) (addresses ends : List ℕ) : Type 0 where
  pub count : length addresses ≡ length items
  pub regions : length ends ≡ length starts
  pub begun : (r : ℕ) → r < length ends → slice_index ends r ≡ part_start starts items r rank
  pub stand : (k : ℕ) → RankBelow rank items k → slice_index addresses k ≡ address_at starts items k
  pub nowhere : (k : ℕ) → own_part items k ≡ None → slice_index addresses k ≡ 0

-- each item's region is one of so many
abbrev pub IsInBy : ℕ → Option Part → Type 0
IsInBy regions None = Unit {0}
IsInBy regions (Some p) = (p.region < regions) × (p.rank < 3)

abbrev pub AreIn : ℕ → List Item → Type 0
AreIn regions items = All (λ i. IsInBy regions i.part) items
