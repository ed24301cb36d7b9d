-- Faults as they are told: a name, then its fields, each after a space; numbers in decimal, a fault within it in the same way.
use Rattle.std.specs.Prelude.{List, [], ◌∷◌, ℕ, ◌++◌, codes, flat_map, Option}
use Rattle.std.specs.Option.{option_map_or}
use Rattle.std.specs.Fmt.{decimal, signed_decimal}
use Rattle.mod_layout.specs.declared.TableFault.{TableFault}
use Rattle.mod_layout.specs.declared.TableFault.TheVariants as table_fault
use Rattle.image_text.specs.declared.ImageFault.{ImageFault}
use Rattle.image_text.specs.declared.ImageFault.TheVariants as image_fault
use Rattle.schedule_file.specs.declared.ScheduleFault.{ScheduleFault}
use Rattle.schedule_file.specs.declared.ScheduleFault.TheVariants as schedule_fault
use Rattle.vendor_tool.specs.declared.ChallengeFault.{ChallengeFault}
use Rattle.vendor_tool.specs.declared.ChallengeFault.TheVariants as challenge_fault
use Rattle.vendor_tool.specs.declared.TraceFault.{TraceFault}
use Rattle.vendor_tool.specs.declared.TraceFault.TheVariants as trace_fault
use Rattle.arm_balance.specs.declared.ArmsFault.{ArmsFault}
use Rattle.arm_balance.specs.declared.ArmsFault.TheVariants as arms_fault
use Rattle.terms_file.specs.declared.TermsFault.{TermsFault}
use Rattle.terms_file.specs.declared.TermsFault.TheVariants as terms_fault
use Rattle.script_file.specs.declared.ScriptFault.{ScriptFault}
use Rattle.script_file.specs.declared.ScriptFault.TheVariants as script_fault
use Rattle.elf_objects.specs.declared.fault.ElfFault.{ElfFault}
use Rattle.elf_objects.specs.declared.fault.ElfFault.TheVariants as elf_fault
use Rattle.asm_text.specs.declared.unit.AsmFault.{AsmFault}
use Rattle.asm_text.specs.declared.unit.AsmFault.TheVariants as asm_fault
use Rattle.layout_file.specs.declared.fault.Spot.{Spot}
use Rattle.layout_file.specs.declared.fault.LayoutFault.{LayoutFault}
use Rattle.layout_file.specs.declared.fault.LayoutFault.TheVariants as layout_fault
use Rattle.layout_file.specs.Keys.{key_name}
use Rattle.cli_files.specs.declared.answers.FileFault.{FileFault}
use Rattle.cli_files.specs.declared.answers.FileFault.TheVariants as fault

abbrev pub table_fault_text : TableFault → List ℕ
table_fault_text table_fault.Empty = codes "Empty"
table_fault_text table_fault.Odd = codes "Odd"
table_fault_text (table_fault.Overlap with_id) = codes "Overlap " ++ decimal with_id
table_fault_text table_fault.Reserved = codes "Reserved"
table_fault_text table_fault.Full = codes "Full"
table_fault_text table_fault.Spent = codes "Spent"

abbrev pub image_fault_text : ImageFault → List ℕ
image_fault_text (image_fault.Line n) = codes "Line " ++ decimal n
image_fault_text (image_fault.Digit at) = codes "Digit " ++ decimal at
image_fault_text (image_fault.Twice addr) = codes "Twice " ++ decimal addr
image_fault_text (image_fault.Table id refusal) = (codes "Table " ++ decimal id) ++ (codes " " ++ table_fault_text refusal)
image_fault_text (image_fault.Version n) = codes "Version " ++ decimal n
image_fault_text image_fault.NoMemory = codes "NoMemory"

abbrev pub schedule_fault_text : ScheduleFault → List ℕ
schedule_fault_text (schedule_fault.Line n) = codes "Line " ++ decimal n
schedule_fault_text (schedule_fault.NotRising n) = codes "NotRising " ++ decimal n
schedule_fault_text schedule_fault.TooMany = codes "TooMany"
schedule_fault_text schedule_fault.NoMemory = codes "NoMemory"

abbrev pub challenge_fault_text : ChallengeFault → List ℕ
challenge_fault_text challenge_fault.TooMany = codes "TooMany"
challenge_fault_text (challenge_fault.Line n) = codes "Line " ++ decimal n
challenge_fault_text (challenge_fault.NotRising n) = codes "NotRising " ++ decimal n
challenge_fault_text challenge_fault.NoMemory = codes "NoMemory"

abbrev pub trace_fault_text : TraceFault → List ℕ
trace_fault_text (trace_fault.Line n) = codes "Line " ++ decimal n
trace_fault_text trace_fault.NoEnd = codes "NoEnd"
trace_fault_text trace_fault.NoMemory = codes "NoMemory"

abbrev pub arms_fault_text : ArmsFault → List ℕ
arms_fault_text arms_fault.TooMany = codes "TooMany"
arms_fault_text (arms_fault.Line n) = codes "Line " ++ decimal n
arms_fault_text (arms_fault.NotRising n) = codes "NotRising " ++ decimal n
arms_fault_text arms_fault.NoMemory = codes "NoMemory"

abbrev pub terms_fault_text : TermsFault → List ℕ
terms_fault_text terms_fault.TooMany = codes "TooMany"
terms_fault_text (terms_fault.Line n) = codes "Line " ++ decimal n
terms_fault_text (terms_fault.NotRising n) = codes "NotRising " ++ decimal n
terms_fault_text terms_fault.NoMemory = codes "NoMemory"

abbrev pub script_fault_text : ScriptFault → List ℕ
script_fault_text (script_fault.Line n) = codes "Line " ++ decimal n
script_fault_text (script_fault.Number n) = codes "Number " ++ decimal n
script_fault_text script_fault.NoMemory = codes "NoMemory"

-- a name, and numbers after it, each after a space
abbrev pub with_numbers : List ℕ → List ℕ → List ℕ
with_numbers name numbers = name ++ flat_map (λ n. codes " " ++ decimal n) numbers

abbrev pub object_fault_text : ElfFault → List ℕ
object_fault_text (elf_fault.Short at) = codes "Short " ++ decimal at
object_fault_text elf_fault.Magic = codes "Magic"
object_fault_text elf_fault.Class = codes "Class"
object_fault_text elf_fault.Order = codes "Order"
object_fault_text elf_fault.Version = codes "Version"
object_fault_text (elf_fault.Machine n) = codes "Machine " ++ decimal n
object_fault_text (elf_fault.Kind n) = codes "Kind " ++ decimal n
object_fault_text (elf_fault.Section index) = codes "Section " ++ decimal index
object_fault_text (elf_fault.Name index) = codes "Name " ++ decimal index
object_fault_text (elf_fault.Link index) = codes "Link " ++ decimal index
object_fault_text (elf_fault.Symbol index) = codes "Symbol " ++ decimal index
object_fault_text (elf_fault.Relocation section entry) = with_numbers (codes "Relocation") (section ∷ entry ∷ [])
object_fault_text (elf_fault.Compressed index) = codes "Compressed " ++ decimal index
object_fault_text (elf_fault.RelSection index) = codes "RelSection " ++ decimal index
object_fault_text (elf_fault.HeaderSize n) = codes "HeaderSize " ++ decimal n
object_fault_text elf_fault.NoMemory = codes "NoMemory"

-- a module's number, or `-`
abbrev pub module_number : Option ℕ → List ℕ
module_number number = option_map_or decimal number (codes "-")

-- a name and a spot after it
abbrev pub with_spot : List ℕ → Spot → List ℕ
with_spot name spot = name ++ (codes " " ++ (module_number spot.«module» ++ (codes " " ++ key_name spot.key)))

abbrev pub layout_fault_text : LayoutFault → List ℕ
layout_fault_text layout_fault.Utf8OrToml = codes "Utf8OrToml"
layout_fault_text (layout_fault.MissingKey spot) = with_spot (codes "MissingKey") spot
layout_fault_text (layout_fault.WrongKind spot) = with_spot (codes "WrongKind") spot
layout_fault_text (layout_fault.OutOfRange spot value) = with_spot (codes "OutOfRange") spot ++ (codes " " ++ signed_decimal value)
layout_fault_text (layout_fault.UnknownKey m) = codes "UnknownKey " ++ module_number m
layout_fault_text (layout_fault.TooMany spot) = with_spot (codes "TooMany") spot
layout_fault_text (layout_fault.Overlap first second) = with_numbers (codes "Overlap") (first ∷ second ∷ [])
layout_fault_text (layout_fault.SameName first second) = with_numbers (codes "SameName") (first ∷ second ∷ [])
layout_fault_text layout_fault.NoMemory = codes "NoMemory"
layout_fault_text (layout_fault.SameBoot first second) = with_numbers (codes "SameBoot") (first ∷ second ∷ [])

abbrev pub source_fault_text : AsmFault → List ℕ
source_fault_text (asm_fault.Line n) = codes "Line " ++ decimal n
source_fault_text (asm_fault.Place n) = codes "Place " ++ decimal n
source_fault_text (asm_fault.Twice n) = codes "Twice " ++ decimal n
source_fault_text (asm_fault.TooMany n) = codes "TooMany " ++ decimal n
source_fault_text (asm_fault.Large n) = codes "Large " ++ decimal n
source_fault_text (asm_fault.NoLabel n) = codes "NoLabel " ++ decimal n
source_fault_text (asm_fault.Far n value) = (codes "Far " ++ decimal n) ++ (codes " " ++ signed_decimal value)
source_fault_text asm_fault.NoMemory = codes "NoMemory"

abbrev pub fault_text : FileFault → List ℕ
fault_text fault.Absent = codes "Absent"
fault_text fault.TooLong = codes "TooLong"
fault_text (fault.Image refusal) = image_fault_text refusal
fault_text (fault.NoModule id) = codes "NoModule " ++ decimal id
fault_text (fault.Schedule refusal) = schedule_fault_text refusal
fault_text (fault.Challenges refusal) = challenge_fault_text refusal
fault_text (fault.Trace refusal) = trace_fault_text refusal
fault_text (fault.Arms refusal) = arms_fault_text refusal
fault_text (fault.Terms refusal) = terms_fault_text refusal
fault_text (fault.Layout refusal) = layout_fault_text refusal
fault_text (fault.Object refusal) = object_fault_text refusal
fault_text (fault.Script refusal) = script_fault_text refusal
fault_text (fault.Source refusal) = source_fault_text refusal
