-- The code's maps of names, and what they hold.
use Rattle.std.specs.Prelude.{ℕ, ◌≡◌, ◌-◌, List, [], ◌∷◌, length, drop, nat_lt, if◌then◌else◌, Option, Some, ◌++◌, map, bytes_eq}
use Rattle.std.specs.Borrow.{Bor}
use Rattle.std.specs.BTreeMap.{BTreeMap, get_by}
use Rattle.std.specs.Cmp.Lexicographic.{slice_cmp}
use Rattle.std.specs.Ordering.{nat_cmp, ordering_then}
use Rattle.std.specs.declared.cmp.Ordering.{Ordering}
use Rattle.byteorder.specs.Endian.{big_number}
use Rattle.link_symbols.specs.declared.item.Item.{Item}
use Rattle.link_symbols.specs.declared.names.Names.{Names}
use Rattle.link_symbols.specs.declared.symbol.Meaning.{Meaning}
use Rattle.link_symbols.specs.Passes.{some_if}
use Rattle.std.specs.Option.{option_or}
use Rattle.link_symbols.specs.Symbols.{NamedValue}
use Rattle.link_symbols.specs.Definitions.{strong_of, weak_of}
use Rattle.link_symbols.specs.Commons.{Common, common_item, common_at}
use Rattle.link_symbols.specs.Names.{stands_by}

-- the number of a name's last eight bytes, the last one lowest, and 0 for a shorter name
abbrev pub last_bytes : List ℕ → ℕ
last_bytes name = if nat_lt (length name) 8 then 0 else big_number 8 (drop (length name - 8) name)

-- a key: a name's length, the number of its last bytes, and the name
abbrev pub Key : Type 0
Key = ℕ × ℕ × Bor (List ℕ)

-- how a name compares to a key
abbrev pub name_cmp : List ℕ → Key → Ordering
name_cmp name k = ordering_then (ordering_then (nat_cmp (length name) k.0) (nat_cmp (last_bytes name) k.1)) (slice_cmp nat_cmp name k.2.now)

-- what a map has at each name
abbrev pub name_entry : {A : Type 0} → BTreeMap Key A → List ℕ → Option A
name_entry m name = get_by (name_cmp name) m

-- what names stand for by the maps
abbrev pub meaning_of_name : Names → List ℕ → Option Meaning
meaning_of_name names name = stands_by (name_entry names.strong name) (name_entry names.commons name) (name_entry names.weak name)

-- a map with one name more, where it was not there before
abbrev pub Notes : {A : Type 0} → BTreeMap Key A → BTreeMap Key A → List ℕ → A → Type 0
Notes old new name a = (q : List ℕ) → name_entry new q ≡ option_or (name_entry old q) (some_if (bytes_eq name q) (Some a))

-- what is known of a symbol's name is its first weak definition
abbrev pub IsFirst : (List ℕ → Option Meaning) → NamedValue → Option Meaning → Type 0
IsFirst weak s known = (m : Meaning) → known ≡ Some m → weak s.name ≡ Some m

-- so it is with each symbol
abbrev pub AreFirsts : (List ℕ → Option Meaning) → List NamedValue → List (Option Meaning) → Type 0
AreFirsts weak [] [] = Unit {0}
AreFirsts weak (s ∷ ss) (known ∷ os) = IsFirst weak s known × AreFirsts weak ss os
AreFirsts weak _ _ = ⊥

-- what was kept of these symbols' names is so
abbrev pub KnowsFirsts : Names → List NamedValue → Type 0
KnowsFirsts names symbols = AreFirsts (name_entry names.weak) symbols names.firsts.items

-- the definitions of these symbols are noted, and no common
pub record HoldsNames (names : Names) (symbols : List NamedValue) : Type 0 where
  pub strong : (q : List ℕ) → name_entry names.strong q ≡ strong_of symbols q
  pub weak : (q : List ℕ) → name_entry names.weak q ≡ weak_of symbols q
  pub firsts : KnowsFirsts names symbols

-- these commons are noted, and are items after the sections
pub record HoldsCommons (names : Names) (items sections : List Item) (cs : List Common) : Type 0 where
  pub items_are : items ≡ sections ++ map common_item cs
  pub numbers : (q : List ℕ) → name_entry names.commons q ≡ common_at (length sections) cs q
