-- What names and symbols stand for.
use Rattle.std.specs.Prelude.{ℕ, List, length, Option, Some, ◌==◌, if◌then◌else◌, sum_by, option_map, unwrap_or}
use Rattle.elf_objects.specs.Object.{ObjectValue}
use Rattle.elf_objects.specs.declared.object.Binding.{Binding}
use Rattle.elf_objects.specs.declared.object.Binding.TheVariants as binding
use Rattle.link_symbols.specs.declared.names.Definition.{Definition}
use Rattle.link_symbols.specs.declared.symbol.Meaning.{Meaning}
use Rattle.std.specs.Option.{option_or}
use Rattle.link_symbols.specs.Symbols.{NamedValue, named_symbols}
use Rattle.link_symbols.specs.Definitions.{meaning_in, strong_of, weak_of}
use Rattle.link_symbols.specs.Commons.{commons_of, common_at}
use Rattle.link_symbols.specs.declared.symbol.Meaning.TheVariants as meaning

-- its strong definition; else its common; else its first weak definition
abbrev pub stands_by : Option Definition → Option ℕ → Option Meaning → Option Meaning
stands_by strong common weak = option_or (option_map (λ d. d.meaning) strong) (option_or (option_map (λ item. meaning.Place item 0) common) weak)

abbrev pub count_sections : List ObjectValue → ℕ
count_sections objects = sum_by (λ o. length o.sections) objects

unfoldable pub stands_for : List ObjectValue → List ℕ → Option Meaning
stands_for objects name = let symbols = named_symbols objects in
    stands_by (strong_of symbols name) (common_at (count_sections objects) (commons_of symbols) name) (weak_of symbols name)

-- a weak symbol whose name stands for nothing is the number 0
abbrev pub symbol_meaning_by : (List ℕ → Option Meaning) → NamedValue → Binding → Option Meaning
symbol_meaning_by names s binding.Local = meaning_in s.what
symbol_meaning_by names s binding.Global = names s.name
symbol_meaning_by names s binding.Weak = Some (unwrap_or (names s.name) (meaning.Number 0))

-- symbol 0 is the number 0
unfoldable pub symbol_meaning : (List ℕ → Option Meaning) → NamedValue → Option Meaning
symbol_meaning names s = if s.symbol == 0 then Some (meaning.Number 0) else symbol_meaning_by names s s.binding
