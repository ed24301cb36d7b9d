-- The table of modules while it is made.
use Rattle.std.specs.Prelude.{ℕ, ◌≡◌, ◌≢◌, ◌+◌, List, length, false, Some, ◌≤◌, All, ◌||◌, ◌<◌, slice_get, ◌⊎◌}
use Rattle.layout_file.specs.Values.{ModuleValue}
use Rattle.mod_layout.specs.declared.Module.{Module}
use Rattle.mod_layout.specs.Table.{share_byte, is_empty, is_odd, is_reserved, Table}
use Rattle.linker.specs.Placement.{text_of, ram_of}
use Rattle.image_text.specs.Image.{AreNumbered}

-- a held module is one with a boot up to this, or with the next one and a lower number
pub record ComesFrom (end : ℕ → ℕ) (modules : List ModuleValue) (boot number : ℕ) (m : Module) : Type 0 where
  pub place : ℕ
  pub spec : ModuleValue
  pub found : slice_get modules place ≡ Some spec
  pub text : m.text ≡ text_of end place spec
  pub ram : m.ram ≡ ram_of end place spec
  pub earlier : (spec.boot ≤ boot) ⊎ ((spec.boot ≡ boot + 1) × (place < number))

abbrev pub CountsTo : List ModuleValue → ℕ → ℕ → ℕ → Type 0
CountsTo modules boot number count = (count ≤ boot)
    ⊎ ((count ≤ boot + 1) × ((j : ℕ) × ((m : ModuleValue) × ((j < number) × ((slice_get modules j ≡ Some m) × (m.boot ≡ boot + 1))))))

-- the modules up to this boot are held, and of the next boot those of lower numbers
pub record Drawn (end : ℕ → ℕ) (modules : List ModuleValue) (boot number : ℕ) (t : Table) : Type 0 where
  pub from : All (ComesFrom end modules boot number) t.modules
  pub count : CountsTo modules boot number (length t.modules)

-- the regions of modules are apart, their boots differ, and their sections are as a table wants them
pub record TableFits (end : ℕ → ℕ) (modules : List ModuleValue) : Type 0 where
  pub apart : (j k : ℕ) (m o : ModuleValue) → slice_get modules j ≡ Some m → slice_get modules k ≡ Some o → (j ≢ k) → (share_byte (text_of end j m) (text_of end k o) ≡ false) × ((share_byte (text_of end j m) (ram_of end k o) ≡ false) × ((share_byte (ram_of end j m) (text_of end k o) ≡ false) × (share_byte (ram_of end j m) (ram_of end k o) ≡ false)))
  pub own : (j : ℕ) (m : ModuleValue) → slice_get modules j ≡ Some m → share_byte (text_of end j m) (ram_of end j m) ≡ false
  pub some : (j : ℕ) (m : ModuleValue) → slice_get modules j ≡ Some m → (is_empty (text_of end j m) || is_empty (ram_of end j m)) ≡ false
  pub even : (j : ℕ) (m : ModuleValue) → slice_get modules j ≡ Some m → (is_odd (text_of end j m) || is_odd (ram_of end j m)) ≡ false
  pub clear : (j : ℕ) (m : ModuleValue) → slice_get modules j ≡ Some m → (is_reserved (text_of end j m) || is_reserved (ram_of end j m)) ≡ false
  pub boots : (j k : ℕ) (m o : ModuleValue) → j < k → slice_get modules j ≡ Some m → slice_get modules k ≡ Some o → m.boot ≢ o.boot

-- the ids of a table are those from 1 on, all of them held
pub record AllHeld (t : Table) : Type 0 where
  pub numbered_from_1 : AreNumbered 1 t.modules
  pub all_held : length t.modules ≡ t.given
