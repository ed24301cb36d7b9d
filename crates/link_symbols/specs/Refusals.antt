-- Sections without a place, and names that stand for nothing that they must: six refusals, each the first in order of object
-- (or vector, module) and index.
use Rattle.std.specs.Prelude.{ℕ, ◌+◌, List, [], ◌∷◌, Bool, false, Option, Some, None, ◌*◌, ◌%◌, ◌++◌, ◌&&◌, ◌==◌, is_none, not, slice_get, nat_lt}
use Rattle.elf_objects.specs.Object.{ObjectValue}
use Rattle.elf_objects.specs.declared.object.SectionHead.{SectionHead}
use Rattle.layout_file.specs.Values.{ModuleValue, LayoutValue, VectorValue}
use Rattle.elf_objects.specs.declared.object.Symbol.{Symbol}
use Rattle.std.specs.List.{list_any}
use Rattle.std.specs.Option.{option_map_or}
use Rattle.elf_objects.specs.declared.object.Relocation.{Relocation}
use Rattle.mod_layout.specs.First.{first_in, first_of}
use Rattle.link_symbols.specs.declared.fault.LinkFault.{LinkFault}
use Rattle.link_symbols.specs.declared.item.Part.{Part}
use Rattle.link_symbols.specs.declared.item.Item.{Item}
use Rattle.link_symbols.specs.declared.names.Definition.{Definition}
use Rattle.link_symbols.specs.declared.symbol.Meaning.{Meaning}
use Rattle.link_symbols.specs.Passes.{first_at, NumberedObject, numbered_objects}
use Rattle.std.specs.Bool.{then_some}
use Rattle.std.specs.Option.{option_or}
use Rattle.link_symbols.specs.Parts.{is_loaded_head, item_of}
use Rattle.link_symbols.specs.Symbols.{NamedValue, named_symbol, named_symbols}
use Rattle.link_symbols.specs.Definitions.{strong_by, strong_of}
use Rattle.link_symbols.specs.Names.{stands_for, symbol_meaning}
use Rattle.link_symbols.specs.Resolved.{items_of}
use Rattle.link_symbols.specs.declared.fault.LinkFault.TheVariants as fault
use Rattle.link_symbols.specs.declared.symbol.Meaning.TheVariants as meaning

-- 1: a loaded section that goes nowhere
unfoldable pub no_place_at : List ModuleValue → NumberedObject → ℕ → SectionHead → Option LinkFault
no_place_at modules x k head = then_some (is_loaded_head head && is_none (item_of modules x.object head).part) (fault.NoPlace x.number k)

abbrev pub no_place_in : List ModuleValue → NumberedObject → Option LinkFault
no_place_in modules x = first_at (no_place_at modules x) 0 x.object.sections

unfoldable pub no_place : List ModuleValue → List ObjectValue → Option LinkFault
no_place modules objects = first_in (no_place_in modules) (numbered_objects objects)

-- 2: a strong definition whose name has an earlier one
abbrev pub duplicate_by : NamedValue → Option Definition → Option Definition → Option LinkFault
duplicate_by s (Some d) (Some e) = Some (fault.Duplicate e.object e.symbol s.object s.symbol)
duplicate_by s _ _ = None

abbrev pub duplicate_of : List NamedValue → NamedValue → Option LinkFault
duplicate_of before s = duplicate_by s (strong_by s) (strong_of before s.name)

unfoldable pub duplicate : List NamedValue → List NamedValue → Option LinkFault
duplicate before [] = None
duplicate before (s ∷ ss) = option_or (duplicate_of before s) (duplicate (before ++ s ∷ []) ss)

-- 3: the lowest symbol of an object that a relocation uses and that does not resolve
abbrev pub is_used : List Relocation → ℕ → Bool
is_used relocations k = list_any (λ r. r.symbol == k) relocations

unfoldable pub undefined_at : (List ℕ → Option Meaning) → NumberedObject → ℕ → Symbol → Option LinkFault
undefined_at names x k s =
    then_some (is_used x.object.relocations k && is_none (symbol_meaning names (named_symbol x k s))) (fault.Undefined x.number k)

abbrev pub undefined_in : (List ℕ → Option Meaning) → NumberedObject → Option LinkFault
undefined_in names x = first_at (undefined_at names x) 0 x.object.symbols

unfoldable pub undefined : (List ℕ → Option Meaning) → List ObjectValue → Option LinkFault
undefined names objects = first_in (undefined_in names) (numbered_objects objects)

-- 4
abbrev pub no_vector_at : (List ℕ → Option Meaning) → VectorValue → Option LinkFault
no_vector_at names v = then_some (is_none (names v.name)) (fault.NoVector v.vector)

unfoldable pub no_vector : (List ℕ → Option Meaning) → List VectorValue → Option LinkFault
no_vector names vectors = first_in (no_vector_at names) vectors

-- 5
abbrev pub no_entry_at : (List ℕ → Option Meaning) → ℕ → ℕ → List ℕ → Option LinkFault
no_entry_at names i k name = then_some (is_none (names name)) (fault.NoEntry i k)

abbrev pub no_entry_in : (List ℕ → Option Meaning) → ℕ → ModuleValue → Option LinkFault
no_entry_in names i m = first_at (no_entry_at names i) 0 m.entries

unfoldable pub no_entry : (List ℕ → Option Meaning) → List ModuleValue → Option LinkFault
no_entry names modules = first_at (no_entry_in names) 0 modules

-- 6: no place in the module's code, or an odd one, or one not below its section's size
abbrev pub is_code_of : ℕ → Option Part → Bool
is_code_of i part = option_map_or (λ p. (p.region == 2 + 2 * i) && (p.rank == 0)) part false

abbrev pub is_entry_in : ℕ → ℕ → Option Item → Bool
is_entry_in i offset item = option_map_or (λ x. is_code_of i x.part && (offset % 2 == 0) && nat_lt offset x.size) item false

abbrev pub is_module_entry : List Item → ℕ → Option Meaning → Bool
is_module_entry items i (Some (meaning.Place item offset)) = is_entry_in i offset (slice_get items item)
is_module_entry items i _ = false

abbrev pub elsewhere_at : (List ℕ → Option Meaning) → List Item → ℕ → ℕ → List ℕ → Option LinkFault
elsewhere_at names items i k name = then_some (not (is_module_entry items i (names name))) (fault.EntryElsewhere i k)

abbrev pub elsewhere_in : (List ℕ → Option Meaning) → List Item → ℕ → ModuleValue → Option LinkFault
elsewhere_in names items i m = first_at (elsewhere_at names items i) 0 m.entries

unfoldable pub elsewhere : (List ℕ → Option Meaning) → List Item → List ModuleValue → Option LinkFault
elsewhere names items modules = first_at (elsewhere_in names items) 0 modules

-- the first of them, if there is one
unfoldable pub unresolved : LayoutValue → List ObjectValue → Option LinkFault
unresolved layout objects = let names = stands_for objects in first_of (
    no_place layout.modules objects
    ∷ duplicate [] (named_symbols objects)
    ∷ undefined names objects
    ∷ no_vector names layout.vectors
    ∷ no_entry names layout.modules
    ∷ elsewhere names (items_of layout objects) layout.modules
    ∷ [])
