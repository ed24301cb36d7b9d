-- What a module table keeps.
use Rattle.std.specs.Prelude.{◌≡◌, ◌≢◌, ◌⊎◌, ℕ, ◌%◌, ◌<◌, ◌≤◌, false, List, [], ◌∷◌, length}
use Rattle.std.specs.List.{AllByRecursion}
use Rattle.mod_layout.specs.declared.TheConstants.{DEVICES_END, FIRST_VECTOR}
use Rattle.mod_layout.specs.declared.Section.{Section}
use Rattle.mod_layout.specs.declared.Module.{Module}
use Rattle.mod_layout.specs.Table.{Table, share_byte}

-- a section is not empty, has even ends, and lies above the devices and below the vectors
pub record IsSection (s : Section) : Type 0 where
  pub order : s.start < s.end
  pub even_start : s.start % 2 ≡ 0
  pub even_end : s.end % 2 ≡ 0
  pub low : DEVICES_END ≤ s.start
  pub high : s.end ≤ FIRST_VECTOR

-- a module's sections share no byte, and its id is one of those given so far
pub record IsModule (given : ℕ) (x : Module) : Type 0 where
  pub text_ok : IsSection x.text
  pub ram_ok : IsSection x.ram
  pub apart : share_byte x.text x.ram ≡ false
  pub numbered : 0 < x.id
  pub known : x.id ≤ given

-- two modules share no byte, and no id
pub record Separate (x y : Module) : Type 0 where
  pub texts : share_byte x.text y.text ≡ false
  pub text_ram : share_byte x.text y.ram ≡ false
  pub ram_text : share_byte x.ram y.text ≡ false
  pub rams : share_byte x.ram y.ram ≡ false
  pub ids : x.id ≢ y.id

-- each of these is a module, and separate from those after it
abbrev pub AreModules : ℕ → List Module → Type 0
AreModules given [] = Unit {0}
AreModules given (x ∷ xs) = IsModule given x × AllByRecursion (Separate x) xs × AreModules given xs

-- what every table keeps: modules that share nothing, no more than its room, which is 8 or 32
pub record IsTable (t : Table) : Type 0 where
  pub modules : AreModules t.given t.modules
  pub fits : length t.modules ≤ t.room
  pub room_ok : (t.room ≡ 8) ⊎ (t.room ≡ 32)
