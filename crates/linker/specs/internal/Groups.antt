-- The refusals of placement, as the code comes to them.
use Rattle.std.specs.Prelude.{ℕ, List, Option}
use Rattle.elf_objects.specs.Object.{ObjectValue}
use Rattle.layout_file.specs.Values.{LayoutValue}
use Rattle.link_symbols.specs.declared.fault.LinkFault.{LinkFault}
use Rattle.mod_layout.specs.First.{first_in}
use Rattle.link_symbols.specs.Passes.{numbered_objects}
use Rattle.std.specs.Option.{option_or}
use Rattle.linker.specs.Numbers.{Linking}
use Rattle.linker.specs.Fields.{reloc_fault_in}
use Rattle.linker.specs.Refusals.{overfull}

-- regions that are too small, and fields that do not hold their numbers
unfoldable pub fill_fault : (ℕ → ℕ) → Linking → LayoutValue → List ObjectValue → Option LinkFault
fill_fault end l layout objects = option_or (overfull layout end) (first_in (reloc_fault_in l) (numbered_objects objects))
