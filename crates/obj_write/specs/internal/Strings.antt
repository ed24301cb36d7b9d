-- What the code's own invariants say of: Strings.
use Rattle.std.specs.Prelude.{◌≡◌, ℕ, List, length}
use Rattle.elf_objects.specs.Passes.{each_below}
use Rattle.obj_write.specs.declared.strings.Strings.{Strings}
use Rattle.obj_write.specs.Strings.{string_table, name_at}

-- the table and the places of these names
pub record IsTableOf (names : List (List ℕ)) (strings : Strings) : Type 0 where
  pub bytes : strings.bytes.items ≡ string_table names
  pub places : strings.places.items ≡ each_below (name_at names) (length names)
