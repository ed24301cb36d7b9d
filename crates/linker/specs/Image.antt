-- The linked image: zeros, then the sections, the fields of their relocations in order, the stubs and the vectors.
use Rattle.std.specs.Prelude.{ℕ, ◌≡◌, List, None, ◌==◌, if◌then◌else◌, fold, replicate}
use Rattle.elf_objects.specs.Object.{ObjectValue}
use Rattle.layout_file.specs.Values.{ModuleValue, LayoutValue}
use Rattle.std.specs.List.{range_with_len}
use Rattle.mod_layout.specs.Table.{Table, with_module, empty_table}
use Rattle.image_text.specs.Image.{Image}
use Rattle.link_symbols.specs.Passes.{fold_at, numbered_objects}
use Rattle.linker.specs.Placement.{text_of, ram_of}
use Rattle.linker.specs.Numbers.{Linking, linking_of, region_end}
use Rattle.linker.specs.Refusals.{link_fault_of}
use Rattle.linker.specs.Sections.{put_sections}
use Rattle.linker.specs.Fields.{put_fields}
use Rattle.linker.specs.Stubs.{put_stub, put_vector}

-- all bytes that nothing sets are 0
abbrev pub memory_by : Linking → (ℕ → ℕ) → LayoutValue → List ObjectValue → List ℕ → List ℕ
memory_by l end layout objects memory =
    let sections = fold (put_sections l.address) memory (numbered_objects objects) in
    let fields = fold (put_fields l) sections (numbered_objects objects) in
    let stubs = fold_at (put_stub l end) fields 0 layout.modules in
    fold (put_vector l) stubs layout.vectors

unfoldable pub blank_memory : List ℕ
blank_memory = replicate 65536 0

unfoldable pub linked_memory : LayoutValue → List ObjectValue → List ℕ
linked_memory layout objects = memory_by (linking_of layout objects) (region_end layout objects) layout objects blank_memory

-- a module with this boot is protected
abbrev pub with_boot : (ℕ → ℕ) → ℕ → Table → ℕ → ModuleValue → Table
with_boot end boot t i m = if m.boot == boot then with_module t m.vendor (text_of end i m) (ram_of end i m) else t

abbrev pub with_boots : (ℕ → ℕ) → List ModuleValue → Table → ℕ → Table
with_boots end modules t boot = fold_at (with_boot end boot) t 0 modules

abbrev pub booted_table : (ℕ → ℕ) → LayoutValue → Table
booted_table end layout = fold (with_boots end layout.modules) (empty_table layout.room) (range_with_len 1 layout.room)

-- modules get ids from 1 in rising boot, in a table of the layout's room
unfoldable pub linked_table : LayoutValue → List ObjectValue → Table
linked_table layout objects = booted_table (region_end layout objects) layout

-- the image that objects link to
unfoldable pub linked_image : LayoutValue → List ObjectValue → Image
linked_image layout objects = record { memory = linked_memory layout objects; table = linked_table layout objects; node_key = layout.key; handler_sp = layout.handler_sp }

-- nothing is refused, and the image is that one
pub record Links (layout : LayoutValue) (objects : List ObjectValue) (image : Image) : Type 0 where
  pub unrefused : link_fault_of layout objects ≡ None
  pub linked : image ≡ linked_image layout objects
