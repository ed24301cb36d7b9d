-- The numbers of ELF with 32 bits (TIS ELF 1.2), each with its name there, under the section that has it.
use Rattle.std.specs.Prelude.{ℕ, ◌/◌, ◌%◌, ◌==◌, Bool}

-- ---- "ELF Header"

-- the bytes of the header, e_ehsize
abbrev pub file_header_size : ℕ
file_header_size = 52

-- ET_REL: an object that is to be linked
abbrev pub relocatable : ℕ
relocatable = 1

-- EM_MSP430, which the registry of machines gave out after that text
abbrev pub msp430 : ℕ
msp430 = 105

-- EV_CURRENT
abbrev pub current_version : ℕ
current_version = 1

-- ---- "ELF Identification"

-- 7f and `ELF` as a word, the low byte first
abbrev pub magic : ℕ
magic = 0x464c457f

-- ELFCLASS32
abbrev pub class_32 : ℕ
class_32 = 1

-- ELFDATA2LSB
abbrev pub low_byte_first : ℕ
low_byte_first = 1

-- ---- "Sections"

-- the bytes of a section's header, e_shentsize
abbrev pub section_header_size : ℕ
section_header_size = 40

-- SHT_NULL: no section
abbrev pub null : ℕ
null = 0

-- SHT_PROGBITS: bytes of the program
abbrev pub progbits : ℕ
progbits = 1

-- SHT_SYMTAB: symbols
abbrev pub symtab : ℕ
symtab = 2

-- SHT_STRTAB: strings
abbrev pub strtab : ℕ
strtab = 3

-- SHT_RELA: relocations with addends
abbrev pub rela : ℕ
rela = 4

-- SHT_NOBITS: a place without bytes in the file
abbrev pub nobits : ℕ
nobits = 8

-- SHT_REL: relocations without addends
abbrev pub rel : ℕ
rel = 9

-- SHF_WRITE
abbrev pub write_flag : ℕ
write_flag = 1

-- SHF_ALLOC
abbrev pub alloc_flag : ℕ
alloc_flag = 2

-- SHF_EXECINSTR
abbrev pub execute_flag : ℕ
execute_flag = 4

-- SHF_COMPRESSED, which the System V gABI adds
abbrev pub compressed_flag : ℕ
compressed_flag = 2048

-- whether the flag is among these
abbrev pub has_flag : ℕ → ℕ → Bool
has_flag flags flag = flags / flag % 2 == 1

-- SHN_UNDEF
abbrev pub undefined_index : ℕ
undefined_index = 0

-- SHN_ABS
abbrev pub absolute_index : ℕ
absolute_index = 0xFFF1

-- SHN_COMMON
abbrev pub common_index : ℕ
common_index = 0xFFF2

-- ---- "Symbol Table"

-- the bytes of a symbol's entry
abbrev pub symbol_size : ℕ
symbol_size = 16

-- STB_LOCAL
abbrev pub local_binding : ℕ
local_binding = 0

-- STB_GLOBAL
abbrev pub global_binding : ℕ
global_binding = 1

-- STB_WEAK
abbrev pub weak_binding : ℕ
weak_binding = 2

-- ---- "Relocation"

-- the bytes of an entry with an addend
abbrev pub relocation_size : ℕ
relocation_size = 12
