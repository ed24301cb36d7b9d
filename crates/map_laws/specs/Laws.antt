-- The laws of maps. Each is what a function of this crate ensures.
use Rattle.std.specs.Prelude.{◌≡◌, ◌≤◌, ◌<◌, ◌+◌, ◌*◌, ℕ, List, [], ◌∷◌, false, Some, All, slice_get, slice_index}
use Rattle.elf_objects.specs.Object.{ObjectValue}
use Rattle.elf_objects.specs.declared.object.SectionHead.{SectionHead}
use Rattle.entry_stubs.specs.Stub.{front_words}
use Rattle.image_text.specs.Image.{Image}
use Rattle.layout_file.specs.Values.{LayoutValue, ModuleValue, VectorValue}
use Rattle.sm_words.specs.Words.{word_at}
use Rattle.mod_layout.specs.Table.{holds}
use Rattle.mod_layout.specs.declared.TheConstants.{FIRST_VECTOR}
use Rattle.linker.specs.Numbers.{linking_of}
use Rattle.link_symbols.specs.Passes.{NumberedObject}
use Rattle.linker.specs.Stubs.{word_named}
use Rattle.linker_laws.specs.Contents.{IsLinked, IsLoaded, field_span}
use Rattle.link_map.specs.Parts.{PartValue, section_part, parts_of}

-- the parts of a map
abbrev pub map_parts : LayoutValue → List ObjectValue → List PartValue
map_parts layout objects = parts_of (linking_of layout objects).address objects

-- a part is a loaded section that has bytes
pub record IsSectionPart (layout : LayoutValue) (objects : List ObjectValue) (p : PartValue) : Type 0 where
  pub object : NumberedObject
  pub index : ℕ
  pub section : SectionHead
  pub loaded : IsLoaded objects object index section
  pub some : 0 < section.size
  pub same : p ≡ section_part (linking_of layout objects).address object index section

abbrev pub Each : {X : Type 0} → (X → Type 0) → List X → Type 0
Each P [] = Unit {0}
Each P (x ∷ xs) = P x × Each P xs

abbrev pub PartsAreSections : Type 0
PartsAreSections = (layout : LayoutValue) (objects : List ObjectValue) → Each (IsSectionPart layout objects) (map_parts layout objects)

abbrev pub Rises : List PartValue → Type 0
Rises [] = Unit {0}
Rises (p ∷ ps) = Each (λ q. p.at ≤ q.at) ps × Rises ps

-- they stand in rising address
abbrev pub PartsRise : Type 0
PartsRise = (layout : LayoutValue) (objects : List ObjectValue) → Rises (map_parts layout objects)

-- A part's byte that no relocation writes is its section's in the image.
abbrev pub PartBytes : Type 0
PartBytes = (layout : LayoutValue) (objects : List ObjectValue) (image : Image) → IsLinked layout objects image →
    (p : PartValue) (x : NumberedObject) (k : ℕ) (s : SectionHead) → IsLoaded objects x k s → p ≡ section_part (linking_of layout objects).address x k s →
    (n : ℕ) → s.bytes.start + n < s.bytes.end →
    All (λ r. holds (field_span layout objects x r) (p.at + n) ≡ false) x.object.relocations →
    slice_index image.memory (p.at + n) ≡ slice_index x.object.file (s.bytes.start + n)

-- The address in an entry's line is what its name stands for, and so is that in a vector's.
abbrev pub EntryWords : Type 0
EntryWords = (layout : LayoutValue) (objects : List ObjectValue) (image : Image) → IsLinked layout objects image →
    (i k : ℕ) (m : ModuleValue) (name : List ℕ) → slice_get layout.modules i ≡ Some m → slice_get m.entries k ≡ Some name →
    word_at (slice_index image.memory) (m.text.start + 2 * front_words + 2 * k) ≡ word_named (linking_of layout objects) name

abbrev pub VectorLines : Type 0
VectorLines = (layout : LayoutValue) (objects : List ObjectValue) (image : Image) → IsLinked layout objects image →
    (k : ℕ) (v : VectorValue) → slice_get layout.vectors k ≡ Some v →
    word_at (slice_index image.memory) (FIRST_VECTOR + 2 * v.vector) ≡ word_named (linking_of layout objects) v.name
