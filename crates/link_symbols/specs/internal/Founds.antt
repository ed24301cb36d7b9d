-- The commons while their names are looked for.
use Rattle.std.specs.Prelude.{ℕ, ◌≡◌, List, [], ◌∷◌, ◌++◌, Bool, true, false, ◌==◌, Option, Some, None, map, fold}
use Rattle.elf_objects.specs.Object.{ObjectValue}
use Rattle.link_symbols.specs.declared.names.Definition.{Definition}
use Rattle.link_symbols.specs.declared.names.Names.{Names}
use Rattle.link_symbols.specs.declared.symbol.What.{What}
use Rattle.link_symbols.specs.declared.symbol.What.TheVariants as what
use Rattle.link_symbols.specs.CommonNames.{common_name}
use Rattle.link_symbols.specs.Commons.{Common, commons_of, common_at, with_symbol}
use Rattle.link_symbols.specs.Definitions.{strong_of}
use Rattle.link_symbols.specs.Names.{count_sections}
use Rattle.link_symbols.specs.Symbols.{NamedValue, named_symbols}
use Rattle.link_symbols.specs.internal.Maps.{name_entry}

-- whether a symbol is a common with this number, where its name has no strong definition
abbrev pub is_common_by : What → Option Definition → Option ℕ → ℕ → Bool
is_common_by (what.Common size align) None (Some item) number = item == number
is_common_by _ _ _ number = false

abbrev pub is_common : Names → NamedValue → ℕ → Bool
is_common names s number = is_common_by s.what (name_entry names.strong s.name) (name_entry names.commons s.name) number

-- the names with this one, where a test says so
abbrev pub with_name : Bool → List (List ℕ) → List ℕ → List (List ℕ)
with_name true found name = found ++ name ∷ []
with_name false found name = found

-- of these commons, which have numbers from here on, those whose names were found are there before the rest of the symbols
pub record FoundSoFar (names : Names) (first : ℕ) (all : List Common) (found : List (List ℕ)) (rest : List NamedValue) : Type 0 where
  pub now : List Common
  pub named : found ≡ map common_name now
  pub same : all ≡ fold (with_symbol (name_entry names.strong)) now rest

-- the maps have the strong definitions of objects, and the numbers of their commons
pub record CommonsNumbered (names : Names) (objects : List ObjectValue) : Type 0 where
  pub strong : (q : List ℕ) → name_entry names.strong q ≡ strong_of (named_symbols objects) q
  pub commons : (q : List ℕ) → name_entry names.commons q ≡ common_at (count_sections objects) (commons_of (named_symbols objects)) q
