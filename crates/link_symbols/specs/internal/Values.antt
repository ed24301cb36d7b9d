-- Values of the code's own records.
use Rattle.std.specs.Prelude.{ℕ, max}
use Rattle.link_symbols.specs.declared.item.Item.{Item}
use Rattle.link_symbols.specs.Symbols.{NamedValue}
use Rattle.link_symbols.specs.declared.symbol.Named.{Named}

-- an item joined with a common more of its name
abbrev pub joined_item : Item → ℕ → ℕ → Item
joined_item i size align = record { part = i.part; align = max i.align align; size = max i.size size }

-- what the code's record of a symbol stands for
abbrev pub named_value : Named → NamedValue
named_value s = record { object = s.object; symbol = s.symbol; name = s.name.now; binding = s.binding; what = s.what }
