-- A layout as a value, without where it lies in memory.
use Rattle.std.specs.Prelude.{ℕ, List, [], ◌∷◌, map, flat_map}
use Rattle.mod_layout.specs.declared.Section.{Section}

-- the symbol that a vector names
pub record VectorValue : Type 0 where
  pub vector : ℕ
  pub name : List ℕ

pub record ModuleValue : Type 0 where
  pub name : List ℕ
  pub vendor : ℕ
  pub text : Section
  pub ram : Section
  pub stack : ℕ
  pub entries : List (List ℕ)
  pub boot : ℕ

pub record LayoutValue : Type 0 where
  pub room : ℕ
  pub key : List ℕ
  pub handler_sp : ℕ
  pub text : Section
  pub ram : Section
  pub vectors : List VectorValue
  pub modules : List ModuleValue

abbrev pub regions_of : ModuleValue → List Section
regions_of m = m.text ∷ m.ram ∷ []

-- text, data, module 0's text, module 0's data, and so on
abbrev pub regions : Section → Section → List ModuleValue → List Section
regions text ram modules = text ∷ ram ∷ flat_map regions_of modules

abbrev pub module_names : List ModuleValue → List (List ℕ)
module_names modules = map (λ m. m.name) modules

abbrev pub boots_of : List ModuleValue → List ℕ
boots_of modules = map (λ m. m.boot) modules
