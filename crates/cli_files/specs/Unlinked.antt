-- Objects that do not link.
use Rattle.std.specs.Prelude.{◌≡◌, ℕ, List, Some}
use Rattle.layout_file.specs.Values.{LayoutValue}
use Rattle.elf_objects.specs.Object.{ObjectValue}
use Rattle.linker.specs.Refusals.{link_fault_of}
use Rattle.cli_files.specs.declared.answers.Refusal.{Refusal}
use Rattle.cli_files.specs.declared.answers.Refusal.TheVariants as refusal
use Rattle.cli_files.specs.SymbolNames.{symbol_name}

-- the first refusal with its symbol's name, or there was no memory
abbrev pub IsUnlinked : LayoutValue → List ObjectValue → Refusal → List ℕ → Type 0
IsUnlinked layout objects (refusal.Link fault) name = (link_fault_of layout objects ≡ Some fault) × (name ≡ symbol_name layout objects fault)
IsUnlinked layout objects refusal.NoMemory name = Unit {0}
IsUnlinked layout objects _ name = ⊥
