-- What the code knows of names and addresses.
use Rattle.std.specs.Prelude.{ℕ, List, slice_index}
use Rattle.elf_objects.specs.Object.{ObjectValue}
use Rattle.link_symbols.specs.Names.{stands_for}
use Rattle.linker.specs.Numbers.{Linking}

-- a linking by the names of these objects and the code's addresses
abbrev pub linking_by : List ObjectValue → List ℕ → Linking
linking_by objects addresses = record { names = stands_for objects; address = slice_index addresses }
