-- The symbol that a fault of linking names.
use Rattle.std.specs.Prelude.{ℕ, List, [], Option, None, ◌==◌, ◌&&◌, nat_le, if◌then◌else◌, slice_get, map, find, option_map, option_and_then, unwrap_or}
use Rattle.layout_file.specs.Values.{LayoutValue, ModuleValue}
use Rattle.elf_objects.specs.Object.{ObjectValue}
use Rattle.link_symbols.specs.declared.fault.LinkFault.{LinkFault}
use Rattle.link_symbols.specs.declared.fault.LinkFault.TheVariants as link_fault
use Rattle.link_symbols.specs.Passes.{part}

-- the name of an object's symbol
abbrev pub object_symbol_name : Option ObjectValue → ℕ → Option (List ℕ)
object_symbol_name object n = option_and_then (λ o. option_map (λ s. part o s.name) (slice_get o.symbols n)) object

-- the name of a module's entry
abbrev pub module_entry_name : Option ModuleValue → ℕ → Option (List ℕ)
module_entry_name owner n = option_and_then (λ m. slice_get m.entries n) owner

abbrev pub name_in : LayoutValue → List ObjectValue → LinkFault → Option (List ℕ)
name_in layout objects (link_fault.Duplicate first_object first_symbol object symbol) = object_symbol_name (slice_get objects object) symbol
name_in layout objects (link_fault.Undefined object symbol) = object_symbol_name (slice_get objects object) symbol
name_in layout objects (link_fault.NoVector n) = option_map (λ v. v.name) (find (λ v. v.vector == n) layout.vectors)
name_in layout objects (link_fault.NoEntry m n) = module_entry_name (slice_get layout.modules m) n
name_in layout objects (link_fault.EntryElsewhere m n) = module_entry_name (slice_get layout.modules m) n
name_in layout objects _ = None

-- `?`
abbrev pub question_mark : ℕ
question_mark = 63

-- a byte of a name as it is shown: `?` where it is no visible character
abbrev pub shown_byte : ℕ → ℕ
shown_byte b = if nat_le 0x21 b && nat_le b 0x7E then b else question_mark

-- a fault that names no symbol shows none
unfoldable pub symbol_name : LayoutValue → List ObjectValue → LinkFault → List ℕ
symbol_name layout objects fault = map shown_byte (unwrap_or (name_in layout objects fault) [])
