-- Commons: data that several objects ask for by one name.
use Rattle.std.specs.Prelude.{ℕ, List, [], ◌∷◌, Option, Some, None, if◌then◌else◌, bytes_eq, fold, max}
use Rattle.link_symbols.specs.declared.item.Item.{Item}
use Rattle.link_symbols.specs.declared.names.Definition.{Definition}
use Rattle.link_symbols.specs.declared.symbol.What.{What}
use Rattle.link_symbols.specs.Passes.{some_if, first_at}
use Rattle.link_symbols.specs.Parts.{part_at}
use Rattle.link_symbols.specs.Symbols.{NamedValue}
use Rattle.link_symbols.specs.Definitions.{strong_of}
use Rattle.link_symbols.specs.declared.symbol.What.TheVariants as what

pub record Common : Type 0 where
  pub name : List ℕ
  pub size : ℕ
  pub align : ℕ

-- a common of a name more: each name has the largest size and the largest alignment
unfoldable pub commons_with : List Common → Common → List Common
commons_with [] c = c ∷ []
commons_with (d ∷ ds) c =
    if bytes_eq d.name c.name then record { name = d.name; size = max d.size c.size; align = max d.align c.align } ∷ ds
    else d ∷ commons_with ds c

-- a symbol more: a common counts where its name has no strong definition
abbrev pub commons_with_if : Option Definition → List Common → Common → List Common
commons_with_if None cs c = commons_with cs c
commons_with_if (Some d) cs c = cs

abbrev pub with_common : (List ℕ → Option Definition) → List Common → NamedValue → What → List Common
with_common strong cs s (what.Common size align) = commons_with_if (strong s.name) cs (record { name = s.name; size = size; align = align })
with_common strong cs s _ = cs

abbrev pub with_symbol : (List ℕ → Option Definition) → List Common → NamedValue → List Common
with_symbol strong cs s = with_common strong cs s s.what

-- the commons by first appearance
abbrev pub commons_of : List NamedValue → List Common
commons_of symbols = fold (with_symbol (strong_of symbols)) [] symbols

-- a common as an item of the data region, after all sections
abbrev pub common_item : Common → Item
common_item c = record { part = Some (part_at 1 2); align = c.align; size = c.size }

-- the number of the common of this name, the commons being numbered from here on
abbrev pub common_at : ℕ → List Common → List ℕ → Option ℕ
common_at n cs name = first_at (λ k c. some_if (bytes_eq c.name name) (Some k)) n cs
