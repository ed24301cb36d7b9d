-- The numbers of symbols, once everything has an address.
use Rattle.std.specs.Prelude.{ℕ, ◌+◌, List, Option}
use Rattle.std.specs.Option.{option_map_or}
use Rattle.elf_objects.specs.Object.{ObjectValue}
use Rattle.elf_objects.specs.declared.object.Symbol.{Symbol}
use Rattle.layout_file.specs.Values.{LayoutValue}
use Rattle.link_symbols.specs.declared.symbol.Meaning.{Meaning}
use Rattle.link_symbols.specs.Passes.{map_at, NumberedObject}
use Rattle.link_symbols.specs.Symbols.{named_symbol}
use Rattle.link_symbols.specs.Names.{stands_for, symbol_meaning}
use Rattle.link_symbols.specs.Resolved.{items_of}
use Rattle.linker.specs.Placement.{starts_of, filled_end, address_at}
use Rattle.link_symbols.specs.declared.symbol.Meaning.TheVariants as meaning

-- a number, or an address and an offset
abbrev pub meaning_number : (ℕ → ℕ) → Meaning → ℕ
meaning_number address (meaning.Number n) = n
meaning_number address (meaning.Place item offset) = address item + offset

abbrev pub number_or_zero : (ℕ → ℕ) → Option Meaning → ℕ
number_or_zero address found = option_map_or (meaning_number address) found 0

-- what names stand for, and where items stand
pub record Linking : Type 0 where
  pub names : List ℕ → Option Meaning
  pub address : ℕ → ℕ

abbrev pub linking_of : LayoutValue → List ObjectValue → Linking
linking_of layout objects = record { names = stands_for objects; address = address_at (starts_of layout) (items_of layout objects) }

-- where the contents of each region end
abbrev pub region_end : LayoutValue → List ObjectValue → ℕ → ℕ
region_end layout objects = filled_end (starts_of layout) (items_of layout objects)

-- the number of a symbol of an object
abbrev pub linked_number : Linking → NumberedObject → ℕ → Symbol → ℕ
linked_number l x k s = number_or_zero l.address (symbol_meaning l.names (named_symbol x k s))

abbrev pub numbers_in : Linking → NumberedObject → List ℕ
numbers_in l x = map_at (linked_number l x) 0 x.object.symbols
