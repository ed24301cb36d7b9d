-- String tables (TIS ELF 1.2, "String Table").
use Rattle.std.specs.Prelude.{ℕ, List, [], ◌∷◌, ◌++◌, length, take}
use Rattle.std.specs.List.{flat_map}

-- a name with the 0 byte that ends it
abbrev pub terminated : List ℕ → List ℕ
terminated name = name ++ 0 ∷ []

-- the table of some names: a 0 byte, and then each name with its end
unfoldable pub string_table : List (List ℕ) → List ℕ
string_table names = 0 ∷ flat_map terminated names

-- where the name of this index starts: where the table of the names before it ends
unfoldable pub name_at : List (List ℕ) → ℕ → ℕ
name_at names index = length (string_table (take index names))
