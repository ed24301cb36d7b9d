-- The parts of regions, and which one a section goes to: by its name to a part of a module, else by its flags to text and data.
use Rattle.std.specs.Prelude.{ℕ, ◌+◌, List, Bool, Option, Some, None, ◌*◌, ◌%◌, ◌++◌, map, flat_map, codes, ◌==◌, nat_eq, if◌then◌else◌, bytes_eq}
use Rattle.elf_objects.specs.Object.{ObjectValue}
use Rattle.std.specs.List.{starts_with}
use Rattle.elf_objects.specs.declared.object.SectionHead.{SectionHead}
use Rattle.elf_objects.specs.Section.{is_loaded}
use Rattle.layout_file.specs.Values.{ModuleValue}
use Rattle.link_symbols.specs.declared.item.Part.{Part}
use Rattle.link_symbols.specs.declared.item.Item.{Item}
use Rattle.link_symbols.specs.Passes.{first_at, part}

-- regions are numbered in the layout's order: text, data, the text and the data of module 0, and so on;
-- the parts of a region stand one after another in rising rank
abbrev pub part_at : ℕ → ℕ → Part
part_at region rank = record { region = region; rank = rank }

abbrev pub code_part : ℕ → Part
code_part i = part_at (2 + 2 * i) 0

abbrev pub data_part : ℕ → ℕ → Part
data_part i rank = part_at (3 + 2 * i) rank

-- `.sm.`, a module's name and an ending
abbrev pub is_named : List ℕ → List ℕ → List ℕ → Bool
is_named name own ending = bytes_eq name (codes ".sm." ++ (own ++ ending))

-- the part of this module that a name names
unfoldable pub part_in : ℕ → ModuleValue → List ℕ → Option Part
part_in i m name =
    if is_named name m.name (codes ".text") then Some (code_part i)
    else if is_named name m.name (codes ".data") then Some (data_part i 0)
    else if is_named name m.name (codes ".bss") then Some (data_part i 1)
    else None

-- where a loaded section of this name goes: NOBITS come after the other data; nowhere, if its name names no part
unfoldable pub part_of : List ModuleValue → List ℕ → SectionHead → Option Part
part_of modules name head =
    if starts_with nat_eq name (codes ".sm.") then first_at (λ i m. part_in i m name) 0 modules
    else if head.flags % 2 == 0 then Some (part_at 0 0)
    else Some (part_at 1 (if head.kind == 8 then 1 else 0))

abbrev pub is_loaded_head : SectionHead → Bool
is_loaded_head head = is_loaded head.kind head.flags

-- a section that is not loaded goes nowhere
unfoldable pub item_of : List ModuleValue → ObjectValue → SectionHead → Item
item_of modules o head = record {
  part = if is_loaded_head head then part_of modules (part o head.name) head else None;
  align = head.align;
  size = head.size;
}

abbrev pub items_in : List ModuleValue → ObjectValue → List Item
items_in modules o = map (item_of modules o) o.sections

-- the sections of all objects, in order of object and index
abbrev pub section_items : List ModuleValue → List ObjectValue → List Item
section_items modules objects = flat_map (items_in modules) objects
