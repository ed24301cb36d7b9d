-- What each byte of a linked image is: a section's, a field's, a stub's, a vector's, or 0.
use Rattle.std.specs.Prelude.{◌≡◌, ◌<◌, ◌+◌, ◌-◌, ◌*◌, ◌%◌, ℕ, List, drop, true, false, Some, All, slice_get, slice_index, flat_map}
use Rattle.byteorder.specs.Endian.{little_number}
use Rattle.mod_layout.specs.declared.Section.{Section}
use Rattle.mod_layout.specs.declared.TheConstants.{FIRST_VECTOR}
use Rattle.mod_layout.specs.Table.{holds}
use Rattle.elf_objects.specs.Object.{ObjectValue, IsObject}
use Rattle.elf_objects.specs.declared.object.SectionHead.{SectionHead}
use Rattle.elf_objects.specs.declared.object.Relocation.{Relocation}
use Rattle.entry_stubs.specs.Stub.{front_words}
use Rattle.image_text.specs.Image.{Image}
use Rattle.layout_file.specs.Overlaps.{ShareNoByte}
use Rattle.layout_file.specs.Sound.{IsLayout}
use Rattle.layout_file.specs.Values.{VectorValue, ModuleValue, LayoutValue}
use Rattle.reloc_apply.specs.Fields.{row_of, row_size}
use Rattle.reloc_apply.specs.Applies.{limit_by, row_number}
use Rattle.link_symbols.specs.Passes.{NumberedObject, numbered_objects}
use Rattle.link_symbols.specs.Parts.{is_loaded_head}
use Rattle.linker.specs.Placement.{starts_of, address_at, module_stub_size}
use Rattle.link_symbols.specs.Resolved.{items_of}
use Rattle.linker.specs.Numbers.{linking_of, numbers_in, region_end}
use Rattle.linker.specs.Bytes.{memory_part, word_bytes}
use Rattle.linker.specs.Fields.{symbol_sum}
use Rattle.linker.specs.Stubs.{word_named, stub_of}
use Rattle.linker.specs.Image.{Links}
use Rattle.linker_laws.specs.Places.{span}

-- a layout, and objects that link to this image
pub record IsLinked (layout : LayoutValue) (objects : List ObjectValue) (image : Image) : Type 0 where
  pub layout_kept : IsLayout layout
  pub objects_kept : All IsObject objects
  pub links : Links layout objects image

-- section k of an object is a loaded one
pub record IsLoaded (objects : List ObjectValue) (x : NumberedObject) (k : ℕ) (s : SectionHead) : Type 0 where
  pub number : ℕ
  pub object : slice_get (numbered_objects objects) number ≡ Some x
  pub section : slice_get x.object.sections k ≡ Some s
  pub loaded : is_loaded_head s ≡ true

-- where section k of an object stands
abbrev pub section_address : LayoutValue → List ObjectValue → NumberedObject → ℕ → ℕ
section_address layout objects x k = address_at (starts_of layout) (items_of layout objects) (x.first + k)

-- the bytes that a relocation writes
abbrev pub field_span : LayoutValue → List ObjectValue → NumberedObject → Relocation → Section
field_span layout objects x r = span (section_address layout objects x r.target + r.offset) (row_size (row_of r.kind))

-- a byte of a loaded section that no relocation writes is the file's
abbrev pub SectionBytes : Type 0
SectionBytes = (layout : LayoutValue) (objects : List ObjectValue) (image : Image) → IsLinked layout objects image →
    (x : NumberedObject) (k : ℕ) (s : SectionHead) → IsLoaded objects x k s →
    (n : ℕ) → s.bytes.start + n < s.bytes.end →
    All (λ r. holds (field_span layout objects x r) (section_address layout objects x k + n) ≡ false)
    x.object.relocations →
    slice_index image.memory (section_address layout objects x k + n) ≡ slice_index x.object.file (s.bytes.start + n)

-- a field that no later relocation of its object writes to holds its number; a jump's stands in the low ten bits of
-- its word
abbrev pub FieldNumbers : Type 0
FieldNumbers = (layout : LayoutValue) (objects : List ObjectValue) (image : Image) → IsLinked layout objects image →
    (n j : ℕ) (x : NumberedObject) (r : Relocation) →
    slice_get (numbered_objects objects) n ≡ Some x → slice_get x.object.relocations j ≡ Some r →
    ((i : ℕ) (q : Relocation) → j < i → slice_get x.object.relocations i ≡ Some q →
    ShareNoByte (field_span layout objects x r) (field_span layout objects x q)) →
    let start = section_address layout objects x r.target + r.offset in
    let row = row_of r.kind in
    little_number (row_size row) (drop start image.memory) % limit_by row
    ≡ row_number row (start % 65536) (symbol_sum (numbers_in (linking_of layout objects) x) r)

-- each module's text begins with its stub
abbrev pub StubBytes : Type 0
StubBytes = (layout : LayoutValue) (objects : List ObjectValue) (image : Image) → IsLinked layout objects image →
    (i : ℕ) (m : ModuleValue) → slice_get layout.modules i ≡ Some m →
    memory_part image.memory m.text.start (module_stub_size m)
    ≡ flat_map word_bytes (stub_of (linking_of layout objects) (region_end layout objects) i m)

-- whose table has the address of each entry
abbrev pub TableWords : Type 0
TableWords = (layout : LayoutValue) (objects : List ObjectValue) (image : Image) → IsLinked layout objects image →
    (i k : ℕ) (m : ModuleValue) (name : List ℕ) →
    slice_get layout.modules i ≡ Some m → slice_get m.entries k ≡ Some name →
    memory_part image.memory (m.text.start + 2 * front_words + 2 * k) 2
    ≡ word_bytes (word_named (linking_of layout objects) name)

-- each vector of the layout has the low word of what its name stands for
abbrev pub VectorWords : Type 0
VectorWords = (layout : LayoutValue) (objects : List ObjectValue) (image : Image) → IsLinked layout objects image →
    (k : ℕ) (v : VectorValue) → slice_get layout.vectors k ≡ Some v →
    memory_part image.memory (FIRST_VECTOR + 2 * v.vector) 2 ≡ word_bytes (word_named (linking_of layout objects) v.name)

-- an address with a byte of a loaded section, of a stub or of a vector
pub data IsGiven (layout : LayoutValue) (objects : List ObjectValue) (a : ℕ) : Type 0 where
  by_section : (x : NumberedObject) (k : ℕ) (s : SectionHead) → IsLoaded objects x k s →
      holds (span (section_address layout objects x k) (s.bytes.end - s.bytes.start)) a ≡ true → IsGiven layout objects a
  by_stub : (i : ℕ) (m : ModuleValue) → slice_get layout.modules i ≡ Some m →
      holds (span m.text.start (module_stub_size m)) a ≡ true → IsGiven layout objects a
  by_vector : (k : ℕ) (v : VectorValue) → slice_get layout.vectors k ≡ Some v →
      holds (span (FIRST_VECTOR + 2 * v.vector) 2) a ≡ true → IsGiven layout objects a

-- every other byte is 0
abbrev pub ZeroElsewhere : Type 0
ZeroElsewhere = (layout : LayoutValue) (objects : List ObjectValue) (image : Image) → IsLinked layout objects image →
    (a : ℕ) → (IsGiven layout objects a → ⊥) → slice_index image.memory a ≡ 0
