-- The header of an object file (TIS ELF 1.2, "ELF Header").
use Rattle.std.specs.Prelude.{ℕ, ◌+◌, ◌*◌, List, [], ◌∷◌, length, not, ◌||◌, ◌==◌, nat_lt, slice_index, Option}
use Rattle.elf_objects.specs.declared.fault.ElfFault.{ElfFault}
use Rattle.elf_objects.specs.declared.fault.ElfFault.TheVariants as fault
use Rattle.elf_objects.specs.Bytes.{half_at, long_at}
use Rattle.elf_objects.specs.Numbers.{file_header_size, relocatable, msp430, current_version, magic, class_32, low_byte_first, section_header_size}
use Rattle.mod_layout.specs.First.{first_of}
use Rattle.std.specs.Bool.{then_some}

-- e_shoff: where the table of section headers starts
abbrev pub table_offset : List ℕ → ℕ
table_offset file = long_at file 32

-- e_shnum
abbrev pub section_count : List ℕ → ℕ
section_count file = half_at file 48

-- e_shstrndx: which section has the sections' names
abbrev pub name_table : List ℕ → ℕ
name_table file = half_at file 50

-- the file's own kind: a relocatable object of 32 bits, the low byte first, for the MSP430
unfoldable pub header_fault : List ℕ → Option ElfFault
header_fault file = first_of (
    then_some (nat_lt (length file) file_header_size) (fault.Short (length file))
    ∷ then_some (not (long_at file 0 == magic)) fault.Magic
    ∷ then_some (not (slice_index file 4 == class_32)) fault.Class
    ∷ then_some (not (slice_index file 5 == low_byte_first)) fault.Order
    ∷ then_some (not (slice_index file 6 == current_version) || not (long_at file 20 == current_version)) fault.Version
    ∷ then_some (not (half_at file 18 == msp430)) (fault.Machine (half_at file 18))
    ∷ then_some (not (half_at file 16 == relocatable)) (fault.Kind (half_at file 16))
    ∷ [])

-- the table of section headers: entries of a header's size, in the file
unfoldable pub table_fault : List ℕ → Option ElfFault
table_fault file = first_of (
    then_some (not (half_at file 46 == section_header_size)) (fault.HeaderSize (half_at file 46))
    ∷ then_some (nat_lt (length file) (table_offset file + section_header_size * section_count file)) (fault.Short (length file))
    ∷ [])
