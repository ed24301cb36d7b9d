-- When objects link, by conditions over every section, symbol, relocation, vector, entry and region.
use Rattle.std.specs.Prelude.{◌≡◌, ◌≢◌, ◌≤◌, ◌<◌, ◌↔◌, ◌%◌, ℕ, List, [], true, Option, Some, None, IfSome, All, AllPairs, slice_get}
use Rattle.elf_objects.specs.Object.{ObjectValue}
use Rattle.elf_objects.specs.declared.object.Binding.TheVariants as binding
use Rattle.elf_objects.specs.declared.object.SectionHead.{SectionHead}
use Rattle.layout_file.specs.Values.{VectorValue, ModuleValue, LayoutValue}
use Rattle.reloc_apply.specs.Applies.{Applies}
use Rattle.link_symbols.specs.declared.item.Item.{Item}
use Rattle.link_symbols.specs.declared.symbol.Meaning.{Meaning}
use Rattle.link_symbols.specs.declared.symbol.Meaning.TheVariants as meaning
use Rattle.link_symbols.specs.declared.symbol.What.TheVariants as what
use Rattle.link_symbols.specs.Passes.{numbered_objects, part}
use Rattle.link_symbols.specs.Parts.{is_loaded_head, code_part, part_of}
use Rattle.link_symbols.specs.Symbols.{NamedValue, named_symbol, named_symbols}
use Rattle.link_symbols.specs.Names.{stands_for, symbol_meaning}
use Rattle.link_symbols.specs.Resolved.{items_of}
use Rattle.linker.specs.Placement.{text_of, ram_of}
use Rattle.linker.specs.Numbers.{Linking, linking_of, numbers_in, region_end}
use Rattle.linker.specs.Fields.{field_place, file_size, symbol_sum}
use Rattle.linker.specs.Refusals.{link_fault_of}

-- each loaded section goes to a part of a region
abbrev pub SectionsPlaced : List ModuleValue → List ObjectValue → Type 0
SectionsPlaced modules objects = All (λ x. All (λ s.
    is_loaded_head s ≡ true → part_of modules (part x.object s.name) s ≢ None) x.object.sections) (numbered_objects objects)

-- a strong definition: a global symbol with a name, of a number or of a place in a loaded section
pub record IsStrong (s : NamedValue) : Type 0 where
  pub global : s.binding ≡ binding.Global
  pub named : s.name ≢ []
  pub value : Meaning
  pub defined : s.what ≡ what.Defined value

-- no name has two
abbrev pub OneStrongEach : List NamedValue → Type 0
OneStrongEach symbols = AllPairs (λ s t. IsStrong s → IsStrong t → s.name ≢ t.name) symbols

-- each symbol that a relocation uses stands for something
abbrev pub UsedStand : (List ℕ → Option Meaning) → List ObjectValue → Type 0
UsedStand names objects = All (λ x. All (λ r.
    IfSome (slice_get x.object.symbols r.symbol) (λ s. symbol_meaning names (named_symbol x r.symbol s) ≢ None))
    x.object.relocations) (numbered_objects objects)

-- each vector's name stands for something
abbrev pub VectorsStand : (List ℕ → Option Meaning) → List VectorValue → Type 0
VectorsStand names vectors = All (λ v. names v.name ≢ None) vectors

-- an even place in a section of the code of module i
pub record IsEntryPlace (items : List Item) (i : ℕ) (found : Option Meaning) : Type 0 where
  pub item : ℕ
  pub offset : ℕ
  pub place : found ≡ Some (meaning.Place item offset)
  pub section : Item
  pub listed : slice_get items item ≡ Some section
  pub code : section.part ≡ Some (code_part i)
  pub even : offset % 2 ≡ 0
  pub within : offset < section.size

-- each entry's name stands for one in its own module
abbrev pub EntriesStand : (List ℕ → Option Meaning) → List Item → List ModuleValue → Type 0
EntriesStand names items modules = (i : ℕ) (m : ModuleValue) → slice_get modules i ≡ Some m →
    All (λ name. IsEntryPlace items i (names name)) m.entries

-- each region's contents end within it, a module's at an even address
pub record ContentsFit (layout : LayoutValue) (end : ℕ → ℕ) : Type 0 where
  pub text : end 0 ≤ layout.text.end
  pub ram : end 1 ≤ layout.ram.end
  pub module_text : (i : ℕ) (m : ModuleValue) → slice_get layout.modules i ≡ Some m → (text_of end i m).end ≤ m.text.end
  pub module_ram : (i : ℕ) (m : ModuleValue) → slice_get layout.modules i ≡ Some m → (ram_of end i m).end ≤ m.ram.end

-- each relocation applies to the bytes of its section, at its address
abbrev pub RelocationsApply : Linking → List ObjectValue → Type 0
RelocationsApply l objects = All (λ x. All (λ r. (s : SectionHead) → slice_get x.object.sections r.target ≡ Some s →
    Applies r.kind (field_place l.address x r) (symbol_sum (numbers_in l x) r) r.offset (file_size s))
    x.object.relocations) (numbered_objects objects)

pub record CanLink (layout : LayoutValue) (objects : List ObjectValue) : Type 0 where
  pub sections_placed : SectionsPlaced layout.modules objects
  pub one_strong_each : OneStrongEach (named_symbols objects)
  pub used_stand : UsedStand (stands_for objects) objects
  pub vectors_stand : VectorsStand (stands_for objects) layout.vectors
  pub entries_stand : EntriesStand (stands_for objects) (items_of layout objects) layout.modules
  pub contents_fit : ContentsFit layout (region_end layout objects)
  pub relocations_apply : RelocationsApply (linking_of layout objects) objects

-- objects link exactly where these hold
abbrev pub LinksExactly : Type 0
LinksExactly =
    (layout : LayoutValue) (objects : List ObjectValue) → CanLink layout objects ↔ (link_fault_of layout objects ≡ None)
