-- What each symbol says of itself.
use Rattle.std.specs.Prelude.{ℕ, ◌+◌, List, Option, Some, None, flat_map, if◌then◌else◌, slice_get}
use Rattle.elf_objects.specs.Object.{ObjectValue}
use Rattle.elf_objects.specs.declared.object.SectionHead.{SectionHead}
use Rattle.elf_objects.specs.declared.object.Binding.{Binding}
use Rattle.elf_objects.specs.declared.object.Home.{Home}
use Rattle.elf_objects.specs.declared.object.Symbol.{Symbol}
use Rattle.elf_objects.specs.declared.object.Home.TheVariants as home
use Rattle.link_symbols.specs.declared.symbol.Meaning.{Meaning}
use Rattle.link_symbols.specs.declared.symbol.What.{What}
use Rattle.link_symbols.specs.Passes.{map_at, NumberedObject, numbered_objects, part}
use Rattle.link_symbols.specs.Parts.{is_loaded_head}
use Rattle.link_symbols.specs.declared.symbol.Meaning.TheVariants as meaning
use Rattle.link_symbols.specs.declared.symbol.What.TheVariants as what

-- a symbol of an object, with its name
pub record NamedValue : Type 0 where
  pub object : ℕ
  pub symbol : ℕ
  pub name : List ℕ
  pub binding : Binding
  pub what : What

abbrev pub defined_in : Option SectionHead → Meaning → What
defined_in None m = what.Nothing
defined_in (Some head) m = if is_loaded_head head then what.Defined m else what.Nothing

-- what a symbol is in its own object: in a loaded section a place in that section
unfoldable pub what_at : NumberedObject → Symbol → Home → What
what_at x s home.Undefined = what.Nothing
what_at x s home.Absolute = what.Defined (meaning.Number s.value)
what_at x s home.Common = what.Common s.size s.value
what_at x s (home.In k) = defined_in (slice_get x.object.sections k) (meaning.Place (x.first + k) s.value)

abbrev pub named_symbol : NumberedObject → ℕ → Symbol → NamedValue
named_symbol x k s = record { object = x.number; symbol = k; name = part x.object s.name; binding = s.binding; what = what_at x s s.home }

abbrev pub named_symbols_in : NumberedObject → List NamedValue
named_symbols_in x = map_at (named_symbol x) 0 x.object.symbols

-- the symbols of all objects, in order of object and index
abbrev pub named_symbols : List ObjectValue → List NamedValue
named_symbols objects = flat_map named_symbols_in (numbered_objects objects)
