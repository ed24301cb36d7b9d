-- The definitions of a name: strong ones, and weak ones.
use Rattle.std.specs.Prelude.{ℕ, List, length, Bool, true, false, Option, Some, None, ◌==◌, if◌then◌else◌, bytes_eq, not, ◌||◌, option_map}
use Rattle.elf_objects.specs.declared.object.Binding.{Binding}
use Rattle.elf_objects.specs.declared.object.Binding.TheVariants as binding
use Rattle.link_symbols.specs.declared.names.Definition.{Definition}
use Rattle.link_symbols.specs.declared.symbol.Meaning.{Meaning}
use Rattle.link_symbols.specs.declared.symbol.What.{What}
use Rattle.mod_layout.specs.First.{first_in}
use Rattle.link_symbols.specs.Passes.{some_if}
use Rattle.link_symbols.specs.Symbols.{NamedValue}
use Rattle.link_symbols.specs.declared.symbol.What.TheVariants as what

abbrev pub is_global : Binding → Bool
is_global binding.Global = true
is_global _ = false

abbrev pub is_local : Binding → Bool
is_local binding.Local = true
is_local _ = false

abbrev pub meaning_in : What → Option Meaning
meaning_in (what.Defined m) = Some m
meaning_in _ = None

-- what a global or weak symbol with a name defines it as
unfoldable pub definition_of : NamedValue → Option Meaning
definition_of s = if (length s.name == 0) || is_local s.binding then None else meaning_in s.what

abbrev pub definition : NamedValue → Meaning → Definition
definition s m = record { object = s.object; symbol = s.symbol; meaning = m }

-- this symbol, where it is a strong definition; where it is a weak one
unfoldable pub strong_by : NamedValue → Option Definition
strong_by s = some_if (is_global s.binding) (option_map (definition s) (definition_of s))

unfoldable pub weak_by : NamedValue → Option Meaning
weak_by s = some_if (not (is_global s.binding)) (definition_of s)

abbrev pub if_named : {A : Type 0} → List ℕ → NamedValue → Option A → Option A
if_named name s found = some_if (bytes_eq s.name name) found

-- the first strong and the first weak definition of a name
unfoldable pub strong_of : List NamedValue → List ℕ → Option Definition
strong_of symbols name = first_in (λ s. if_named name s (strong_by s)) symbols

unfoldable pub weak_of : List NamedValue → List ℕ → Option Meaning
weak_of symbols name = first_in (λ s. if_named name s (weak_by s)) symbols
