-- What the symbols of objects stand for, found once for all steps, and what is known of strong definitions.
use Rattle.std.specs.Prelude.{ℕ, ◌≡◌, List, [], ◌∷◌, Vec, Bool, true, false, Option, Some, None, ◌&&◌, is_none, map, ◌<◌, length, slice_index_or}
use Rattle.std.specs.declared.alloc.Global.{Global}
use Rattle.elf_objects.specs.Object.{ObjectValue}
use Rattle.elf_objects.specs.declared.object.Symbol.{Symbol}
use Rattle.elf_objects.specs.declared.object.Relocation.{Relocation}
use Rattle.link_symbols.specs.declared.fault.LinkFault.{LinkFault}
use Rattle.link_symbols.specs.declared.symbol.Meaning.{Meaning}
use Rattle.link_symbols.specs.Passes.{first_at, NumberedObject, numbered_objects}
use Rattle.std.specs.Bool.{then_some}
use Rattle.link_symbols.specs.Symbols.{named_symbol, NamedValue}
use Rattle.link_symbols.specs.Resolved.{meanings_in}
use Rattle.link_symbols.specs.Refusals.{is_used}
use Rattle.link_symbols.specs.declared.fault.LinkFault.TheVariants as fault
use Rattle.link_symbols.specs.Definitions.{is_global, definition_of}

abbrev pub listed_meanings : Vec (Option Meaning) Global → List (Option Meaning)
listed_meanings v = v.items

-- these are the meanings of all objects' symbols
abbrev pub AreMeanings : (List ℕ → Option Meaning) → List ObjectValue → List (Vec (Option Meaning) Global) → Type 0
AreMeanings names objects meanings = map listed_meanings meanings ≡ map (meanings_in names) (numbered_objects objects)

abbrev pub all_stand : List (Option Meaning) → Bool
all_stand [] = true
all_stand (None ∷ ms) = false
all_stand (Some m ∷ ms) = all_stand ms

-- a symbol that is used and stands for nothing
abbrev pub gap_if : Bool → ℕ → ℕ → Option Meaning → Option LinkFault
gap_if used number k m = then_some (used && is_none m) (fault.Undefined number k)

abbrev pub gap_at : ℕ → List Relocation → ℕ → Option Meaning → Option LinkFault
gap_at number relocations k m = gap_if (is_used relocations k) number k m

-- the first one of an object
abbrev pub gaps : ℕ → List Relocation → List (Option Meaning) → Option LinkFault
gaps number relocations meanings = first_at (gap_at number relocations) 0 meanings

-- a symbol that defines its name strongly is what its name stands for
abbrev pub OwnMeaning : (List ℕ → Option Meaning) → NamedValue → Type 0
OwnMeaning names s = (m : Meaning) → is_global s.binding ≡ true → definition_of s ≡ Some m → names s.name ≡ Some m

-- so it is with each symbol of an object, and of all objects
abbrev pub OwnMeanings : (List ℕ → Option Meaning) → NumberedObject → Type 0
OwnMeanings names x = (k : ℕ) (d : Symbol) → k < length x.object.symbols → OwnMeaning names (named_symbol x k (slice_index_or x.object.symbols k d))

abbrev pub AllOwnMeanings : (List ℕ → Option Meaning) → List NumberedObject → Type 0
AllOwnMeanings names [] = Unit {0}
AllOwnMeanings names (x ∷ xs) = OwnMeanings names x × AllOwnMeanings names xs
