-- The refusals in two groups, as the code comes to them.
use Rattle.std.specs.Prelude.{ℕ, List, [], Option}
use Rattle.elf_objects.specs.Object.{ObjectValue}
use Rattle.layout_file.specs.Values.{LayoutValue}
use Rattle.link_symbols.specs.declared.fault.LinkFault.{LinkFault}
use Rattle.link_symbols.specs.declared.item.Item.{Item}
use Rattle.link_symbols.specs.declared.symbol.Meaning.{Meaning}
use Rattle.std.specs.Option.{option_or}
use Rattle.link_symbols.specs.Symbols.{named_symbols}
use Rattle.link_symbols.specs.Refusals.{no_place, duplicate, undefined, no_vector, no_entry, elsewhere}

-- sections without a place, and names with two strong definitions
unfoldable pub names_fault : LayoutValue → List ObjectValue → Option LinkFault
names_fault layout objects = option_or (no_place layout.modules objects) (duplicate [] (named_symbols objects))

-- names that do not stand for what they must
unfoldable pub stand_fault : (List ℕ → Option Meaning) → List Item → LayoutValue → List ObjectValue → Option LinkFault
stand_fault names items layout objects =
    option_or (undefined names objects)
    (option_or (no_vector names layout.vectors)
    (option_or (no_entry names layout.modules)
    (elsewhere names items layout.modules)))
