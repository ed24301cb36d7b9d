-- What the code needs of a layout.
use Rattle.std.specs.Prelude.{List, ◌≤◌, All}
use Rattle.layout_file.specs.declared.parts.ModuleSpec.{ModuleSpec}
use Rattle.mod_layout.specs.declared.Section.{Section}

-- the regions of modules end where they start or later
abbrev pub AreOrdered : List ModuleSpec → Type 0
AreOrdered modules = All (λ m. (m.text.start ≤ m.text.end) × (m.ram.start ≤ m.ram.end)) modules

abbrev pub IsOrdered : Section → Type 0
IsOrdered s = s.start ≤ s.end
