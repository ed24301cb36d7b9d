-- What a file is as an object, and why it is none.
use Rattle.std.specs.Prelude.{◌≡◌, ◌≤◌, ◌<◌, ◌+◌, ℕ, List, [], ◌∷◌, length, slice_get, IfSome, true, ◌==◌, if◌then◌else◌, Option, None}
use Rattle.elf_objects.specs.declared.fault.ElfFault.{ElfFault}
use Rattle.elf_objects.specs.declared.object.Span.{Span}
use Rattle.elf_objects.specs.declared.object.SectionHead.{SectionHead}
use Rattle.elf_objects.specs.declared.object.Symbol.{Symbol}
use Rattle.elf_objects.specs.declared.object.Home.{Home}
use Rattle.elf_objects.specs.declared.object.Home.TheVariants as home
use Rattle.elf_objects.specs.declared.object.Relocation.{Relocation}
use Rattle.mod_layout.specs.First.{first_of}
use Rattle.std.specs.Option.{option_or}
use Rattle.elf_objects.specs.Header.{section_count, header_fault, table_fault}
use Rattle.elf_objects.specs.Section.{is_loaded, section_faults, link_faults, compressed_faults, rel_faults}
use Rattle.elf_objects.specs.Names.{name_faults, sections_of}
use Rattle.elf_objects.specs.Symbol.{symbol_faults, symbols_of}
use Rattle.elf_objects.specs.Relocation.{relocation_faults, relocations_of}

-- the refusals of a file with sections, in their order, each over all indexes
unfoldable pub contents_fault : List ℕ → Option ElfFault
contents_fault file = first_of (
    section_faults file
    ∷ link_faults file
    ∷ name_faults file
    ∷ compressed_faults file
    ∷ rel_faults file
    ∷ symbol_faults file
    ∷ relocation_faults file
    ∷ [])

-- the first refusal of a file, if there is one; a file with no sections has nothing past its header to refuse
unfoldable pub elf_fault_of : List ℕ → Option ElfFault
elf_fault_of file = option_or (header_fault file)
    (if section_count file == 0 then None else option_or (table_fault file) (contents_fault file))

-- an object without where it lies in memory
pub record ObjectValue : Type 0 where
  pub file : List ℕ
  pub sections : List SectionHead
  pub symbols : List Symbol
  pub relocations : List Relocation

-- the file is an object with these lists
pub record IsObject (object : ObjectValue) : Type 0 where
  pub sound : elf_fault_of object.file ≡ None
  pub sections : object.sections ≡ sections_of object.file
  pub symbols : object.symbols ≡ symbols_of object.file
  pub relocations : object.relocations ≡ relocations_of object.file

-- a span of a file of this length
pub record IsSpanWithin (size : ℕ) (span : Span) : Type 0 where
  pub ordered : span.start ≤ span.end
  pub within : span.end ≤ size

-- a section's spans are of the file, and it has no more bytes there than its size
pub record IsSectionHead (size : ℕ) (section : SectionHead) : Type 0 where
  pub name : IsSpanWithin size section.name
  pub bytes : IsSpanWithin size section.bytes
  pub sized : section.bytes.end ≤ section.bytes.start + section.size

-- a symbol that lies in a section lies in one of these
abbrev pub IsHome : ℕ → Home → Type 0
IsHome sections home.Undefined = Unit {0}
IsHome sections home.Absolute = Unit {0}
IsHome sections home.Common = Unit {0}
IsHome sections (home.In k) = k < sections

-- a symbol's name is of the file, and its section is one of these
pub record IsSymbol (size sections : ℕ) (symbol : Symbol) : Type 0 where
  pub name : IsSpanWithin size symbol.name
  pub home : IsHome sections symbol.home

-- a relocation's table and target are among these sections, the target is loaded, and its symbol is among so many symbols
pub record IsRelocation (sections : List SectionHead) (symbols : ℕ) (relocation : Relocation) : Type 0 where
  pub table : relocation.table < length sections
  pub target : relocation.target < length sections
  pub loaded : IfSome (slice_get sections relocation.target) (λ s. is_loaded s.kind s.flags ≡ true)
  pub symbol : relocation.symbol < symbols
