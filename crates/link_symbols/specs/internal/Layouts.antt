-- What the code needs of a layout.
use Rattle.std.specs.Prelude.{List, length, ◌≤◌, All, string_bytes}
use Rattle.layout_file.specs.declared.parts.ModuleSpec.{ModuleSpec}

-- the names of modules are short
abbrev pub AreShort : List ModuleSpec → Type 0
AreShort modules = All (λ m. length (string_bytes m.name) ≤ 32) modules
