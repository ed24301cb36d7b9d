-- What has room where it stands.
use Rattle.std.specs.Prelude.{ℕ, ◌≡◌, ◌+◌, List, [], ◌∷◌, length, true, Some, ◌≤◌, All, ◌*◌, ◌%◌, ◌<◌, ◌-◌, slice_get, slice_index_or}
use Rattle.mod_layout.specs.declared.TheConstants.{DEVICES_END, FIRST_VECTOR}
use Rattle.entry_stubs.specs.Stub.{most_entries}
use Rattle.elf_objects.specs.Object.{ObjectValue, IsObject}
use Rattle.elf_objects.specs.declared.object.SectionHead.{SectionHead}
use Rattle.layout_file.specs.Values.{ModuleValue}
use Rattle.elf_objects.specs.declared.object.Relocation.{Relocation}
use Rattle.link_symbols.specs.declared.item.Part.{Part}
use Rattle.link_symbols.specs.declared.item.Item.{Item}
use Rattle.link_symbols.specs.Passes.{NumberedObject}
use Rattle.link_symbols.specs.Parts.{is_loaded_head}
use Rattle.linker.specs.Placement.{module_stub_size}
use Rattle.linker.specs.Fields.{file_size, target_address}

-- a place of so many bytes above the devices and below the vectors
pub record Room (at size : ℕ) : Type 0 where
  pub above_devices : DEVICES_END ≤ at
  pub below_vectors : at + size ≤ FIRST_VECTOR

-- every item that goes somewhere has room there
abbrev pub ItemsFit : (ℕ → ℕ) → List Item → Type 0
ItemsFit address items = (k : ℕ) (i : Item) (p : Part) → slice_get items k ≡ Some i → i.part ≡ Some p → Room (address k) i.size

-- an object's loaded sections have room where they stand
abbrev pub SectionsFit : (ℕ → ℕ) → NumberedObject → Type 0
SectionsFit address x = (k : ℕ) (d : SectionHead) → k < length x.object.sections → is_loaded_head (slice_index_or x.object.sections k d) ≡ true →
    Room (address (x.first + k)) ((slice_index_or x.object.sections k d).bytes.end - (slice_index_or x.object.sections k d).bytes.start)

-- and so have the targets of its relocations
pub record FieldFits (address : ℕ → ℕ) (x : NumberedObject) (r : Relocation) : Type 0 where
  pub target : (s : SectionHead) → slice_get x.object.sections r.target ≡ Some s → Room (target_address address x r) (file_size s)

pub record ObjectFits (address : ℕ → ℕ) (x : NumberedObject) : Type 0 where
  pub sections : SectionsFit address x
  pub fields : All (FieldFits address x) x.object.relocations

abbrev pub AllFit : (ℕ → ℕ) → List NumberedObject → Type 0
AllFit address [] = Unit {0}
AllFit address (x ∷ xs) = ObjectFits address x × AllFit address xs

-- a module's stub ends below what its text holds, and its stack in its data
pub record StubFits (end : ℕ → ℕ) (i : ℕ) (m : ModuleValue) : Type 0 where
  pub some_entries : 1 ≤ length m.entries
  pub few_entries : length m.entries ≤ most_entries
  pub even_stack : m.stack % 2 ≡ 0
  pub stack : m.ram.start + 4 + m.stack ≤ FIRST_VECTOR
  pub above_devices : DEVICES_END ≤ m.text.start
  pub text : m.text.start + module_stub_size m ≤ end (2 + 2 * i)
  pub ram : m.ram.start + 4 + m.stack ≤ end (3 + 2 * i)

abbrev pub StubsFit : (ℕ → ℕ) → List ModuleValue → Type 0
StubsFit end modules = (i : ℕ) (d : ModuleValue) → i < length modules → StubFits end i (slice_index_or modules i d)

-- what an object keeps
pub record Lawful (o : ObjectValue) : Type 0 where
  pub is_one : IsObject o
  pub few : length o.sections < 65536
