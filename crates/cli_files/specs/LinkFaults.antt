-- Faults of linking as they are told.
use Rattle.std.specs.Prelude.{List, [], ◌∷◌, ℕ, ◌++◌, codes}
use Rattle.std.specs.Fmt.{decimal, signed_decimal}
use Rattle.reloc_apply.specs.declared.RelocFault.{RelocFault}
use Rattle.reloc_apply.specs.declared.RelocFault.TheVariants as reloc_fault
use Rattle.link_symbols.specs.declared.fault.Region.{Region}
use Rattle.link_symbols.specs.declared.fault.Region.TheVariants as region
use Rattle.link_symbols.specs.declared.fault.LinkFault.{LinkFault}
use Rattle.link_symbols.specs.declared.fault.LinkFault.TheVariants as link_fault
use Rattle.cli_files.specs.Faults.{with_numbers}

abbrev pub reloc_fault_text : RelocFault → List ℕ
reloc_fault_text (reloc_fault.Kind n) = codes "Kind " ++ decimal n
reloc_fault_text reloc_fault.Outside = codes "Outside"
reloc_fault_text (reloc_fault.Odd value) = codes "Odd " ++ signed_decimal value
reloc_fault_text (reloc_fault.Range value) = codes "Range " ++ signed_decimal value

abbrev pub region_text : Region → List ℕ
region_text region.Text = codes "Text"
region_text region.Data = codes "Data"
region_text (region.ModuleText n) = codes "ModuleText " ++ decimal n
region_text (region.ModuleData n) = codes "ModuleData " ++ decimal n

abbrev pub link_fault_text : LinkFault → List ℕ
link_fault_text (link_fault.NoPlace object section) = with_numbers (codes "NoPlace") (object ∷ section ∷ [])
link_fault_text (link_fault.Duplicate first_object first_symbol object symbol) = with_numbers (codes "Duplicate") (first_object ∷ first_symbol ∷ object ∷ symbol ∷ [])
link_fault_text (link_fault.Undefined object symbol) = with_numbers (codes "Undefined") (object ∷ symbol ∷ [])
link_fault_text (link_fault.NoVector n) = codes "NoVector " ++ decimal n
link_fault_text (link_fault.NoEntry m n) = with_numbers (codes "NoEntry") (m ∷ n ∷ [])
link_fault_text (link_fault.EntryElsewhere m n) = with_numbers (codes "EntryElsewhere") (m ∷ n ∷ [])
link_fault_text (link_fault.Region at need room) = codes "Region " ++ with_numbers (region_text at) (need ∷ room ∷ [])
link_fault_text (link_fault.Reloc object table entry fault) = with_numbers (codes "Reloc") (object ∷ table ∷ entry ∷ []) ++ (codes " " ++ reloc_fault_text fault)
link_fault_text link_fault.NoMemory = codes "NoMemory"
