-- What every layout keeps.
use Rattle.std.specs.Prelude.{◌≡◌, ◌≢◌, ℕ, ◌+◌, ◌<◌, ◌≤◌, ◌%◌, ◌==◌, ◌||◌, List, length, slice_index_or, IsTrue, All, AllPairs}
use Rattle.std.specs.List.{AllPass}
use Rattle.layout_file.specs.Overlaps.{ShareNoByte}
use Rattle.layout_file.specs.Rows.{is_layout_name_byte}
use Rattle.layout_file.specs.Values.{VectorValue, ModuleValue, LayoutValue, regions, module_names, boots_of}
use Rattle.mod_layout.specs.declared.TheConstants.{DEVICES_END, FIRST_VECTOR}
use Rattle.mod_layout.specs.declared.Section.{Section}

-- even ends above the devices and below the vectors, the first not above the second
pub record IsRegion (s : Section) : Type 0 where
  pub even_start : s.start % 2 ≡ 0
  pub even_end : s.end % 2 ≡ 0
  pub above_devices : DEVICES_END ≤ s.start
  pub in_order : s.start ≤ s.end
  pub below_vectors : s.end ≤ FIRST_VECTOR

-- the vectors rise, and each is below 16
pub record AreVectors (vectors : List VectorValue) : Type 0 where
  pub below_16 : All (λ v. v.vector < 16) vectors
  pub rising : AllPairs (λ v w. v.vector < w.vector) vectors

pub record IsModuleValue (room : ℕ) (m : ModuleValue) : Type 0 where
  pub some_name : 1 ≤ length m.name
  pub short_name : length m.name ≤ 32
  pub name_bytes : AllPass is_layout_name_byte m.name
  pub vendor_word : m.vendor ≤ 65535
  pub text_region : IsRegion m.text
  pub ram_region : IsRegion m.ram
  pub even_stack : m.stack % 2 ≡ 0
  pub some_stack : 2 ≤ m.stack
  pub small_stack : m.stack ≤ 32768
  pub some_entries : 1 ≤ length m.entries
  pub few_entries : length m.entries ≤ 64
  pub some_boot : 1 ≤ m.boot
  pub small_boot : m.boot ≤ room

-- room for 8 modules stands for version 1, and room for 32 for version 2
pub record IsLayout (l : LayoutValue) : Type 0 where
  pub known_room : IsTrue ((l.room == 8) || (l.room == 32))
  pub key_bytes : length l.key ≡ 16
  pub even_handler_sp : l.handler_sp % 2 ≡ 0
  pub small_handler_sp : l.handler_sp ≤ 65534
  pub text_region : IsRegion l.text
  pub ram_region : IsRegion l.ram
  pub vectors_kept : AreVectors l.vectors
  pub modules_kept : All (IsModuleValue l.room) l.modules
  pub few_modules : length l.modules ≤ l.room
  pub regions_apart : AllPairs ShareNoByte (regions l.text l.ram l.modules)
  pub names_differ : AllPairs (λ a b. a ≢ b) (module_names l.modules)
  pub boots_differ : AllPairs (λ a b. a ≢ b) (boots_of l.modules)
  -- version 1 protects the modules in their order
  pub boots_in_order : l.room ≡ 8 → (k d : ℕ) → k < length l.modules → slice_index_or (boots_of l.modules) k d ≡ k + 1
