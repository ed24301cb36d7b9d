-- What objects and their names come to: what is placed, and what each symbol stands for.
use Rattle.std.specs.Prelude.{ℕ, List, ◌++◌, Option, map}
use Rattle.elf_objects.specs.Object.{ObjectValue}
use Rattle.elf_objects.specs.declared.object.Symbol.{Symbol}
use Rattle.layout_file.specs.Values.{LayoutValue}
use Rattle.link_symbols.specs.declared.item.Item.{Item}
use Rattle.link_symbols.specs.declared.symbol.Meaning.{Meaning}
use Rattle.link_symbols.specs.Passes.{map_at, NumberedObject, numbered_objects}
use Rattle.link_symbols.specs.Parts.{section_items}
use Rattle.link_symbols.specs.Symbols.{named_symbol, named_symbols}
use Rattle.link_symbols.specs.Commons.{commons_of, common_item}
use Rattle.link_symbols.specs.Names.{stands_for, symbol_meaning}

-- the sections of all objects, then the commons
abbrev pub items_of : LayoutValue → List ObjectValue → List Item
items_of layout objects = section_items layout.modules objects ++ map common_item (commons_of (named_symbols objects))

abbrev pub meaning_at : (List ℕ → Option Meaning) → NumberedObject → ℕ → Symbol → Option Meaning
meaning_at names x k s = symbol_meaning names (named_symbol x k s)

-- what each symbol of an object stands for
abbrev pub meanings_in : (List ℕ → Option Meaning) → NumberedObject → List (Option Meaning)
meanings_in names x = map_at (meaning_at names x) 0 x.object.symbols

-- what the symbols of each object stand for
abbrev pub meanings_of : List ObjectValue → List (List (Option Meaning))
meanings_of objects = map (meanings_in (stands_for objects)) (numbered_objects objects)

-- objects whose names are resolved, and what is placed
pub record ResolvedValue : Type 0 where
  pub objects : List ObjectValue
  pub items : List Item
