-- Refusals: their status, and their line.
use Rattle.std.specs.Prelude.{Bool, true, false, List, ℕ, ◌++◌, codes}
use Rattle.cli_files.specs.declared.answers.Status.{Status}
use Rattle.cli_files.specs.declared.answers.Status.TheVariants as status
use Rattle.cli_files.specs.declared.answers.Refusal.{Refusal}
use Rattle.cli_files.specs.declared.answers.Refusal.TheVariants as refusal
use Rattle.link_symbols.specs.declared.fault.LinkFault.{LinkFault}
use Rattle.link_symbols.specs.declared.fault.LinkFault.TheVariants as link_fault
use Rattle.cli_files.specs.Faults.{fault_text}
use Rattle.cli_files.specs.LinkFaults.{link_fault_text}

-- only a file that cannot be read is a fault that was counted
abbrev pub is_read_fault : Refusal → Bool
is_read_fault refusal.Usage = false
is_read_fault (refusal.BadFile fault) = false
is_read_fault refusal.CannotRead = true
is_read_fault (refusal.Link fault) = false
is_read_fault refusal.NoMemory = false

abbrev pub status_of : Refusal → Status
status_of refusal.Usage = status.Usage
status_of (refusal.BadFile fault) = status.BadFile
status_of refusal.CannotRead = status.ReadFault
status_of (refusal.Link fault) = status.LinkRefused
status_of refusal.NoMemory = status.NoMemory

-- the name of a symbol where the fault has one, and the end of the line
abbrev pub link_end : LinkFault → List ℕ → List ℕ
link_end (link_fault.Duplicate first_object first_symbol object symbol) name = codes " name " ++ (name ++ codes "\n")
link_end (link_fault.Undefined object symbol) name = codes " name " ++ (name ++ codes "\n")
link_end (link_fault.NoVector n) name = codes " name " ++ (name ++ codes "\n")
link_end (link_fault.NoEntry m n) name = codes " name " ++ (name ++ codes "\n")
link_end (link_fault.EntryElsewhere m n) name = codes " name " ++ (name ++ codes "\n")
link_end _ name = codes "\n"

-- what a refusal says, which may name a file or a symbol
unfoldable pub refusal_text : Refusal → List ℕ → List ℕ
refusal_text refusal.Usage name = codes "usage\n"
refusal_text (refusal.BadFile fault) name = (codes "bad file " ++ (name ++ codes ": ")) ++ (fault_text fault ++ codes "\n")
refusal_text refusal.CannotRead name = codes "cannot read " ++ (name ++ codes "\n")
refusal_text (refusal.Link fault) name = codes "link " ++ (link_fault_text fault ++ link_end fault name)
refusal_text refusal.NoMemory name = codes "no memory\n"

-- its line, which begins with the program's name
unfoldable pub refusal_line : List ℕ → Refusal → List ℕ → List ℕ
refusal_line program refused name = (program ++ codes ": ") ++ refusal_text refused name
