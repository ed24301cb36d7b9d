-- The file of a unit (TIS ELF 1.2).
use Rattle.std.specs.Prelude.{ℕ, ◌+◌, List, [], ◌∷◌, ◌++◌, length, map, codes, replicate}
use Rattle.std.specs.List.{flat_map, enumerate_from}
use Rattle.elf_objects.specs.Numbers.{file_header_size, relocatable, msp430, current_version, class_32, low_byte_first, section_header_size, progbits, symtab, strtab, rela, nobits, write_flag, alloc_flag, execute_flag, symbol_size, relocation_size}
use Rattle.asm_line.specs.declared.statement.SectionKind.{SectionKind}
use Rattle.asm_line.specs.declared.statement.SectionKind.TheVariants.{Code, Data, Bss}
use Rattle.asm_text.specs.Parts.{SectionValue, UnitValue}
use Rattle.obj_write.specs.declared.sections.Head.{Head}
use Rattle.obj_write.specs.Bytes.{half_bytes, long_bytes}
use Rattle.obj_write.specs.Strings.{string_table, name_at}
use Rattle.obj_write.specs.Sections.{FileSection, padded_contents, header_table}
use Rattle.obj_write.specs.Symbols.{symbol_names, symbol_table_bytes, first_global}
use Rattle.obj_write.specs.Relocations.{relocations_in, relocation_table, where_some, relocated_sections}

-- ---- names of sections

abbrev pub part_names : List SectionValue → List (List ℕ)
part_names sections = map (λ s. s.name) sections

abbrev pub table_names : List (List ℕ)
table_names = codes ".symtab" ∷ codes ".strtab" ∷ codes ".shstrtab" ∷ []

-- `.rela` followed by the name of the section
abbrev pub relocation_name : SectionValue → List ℕ
relocation_name s = codes ".rela" ++ s.name

-- those of the sections with relocations
unfoldable pub relocation_names : UnitValue → List (List ℕ)
relocation_names unit =
    flat_map (λ (p : ℕ × SectionValue). where_some (relocations_in unit.relocations p.0) (relocation_name p.1)) (enumerate_from 0 unit.sections)

abbrev pub relocated_in : UnitValue → List ℕ
relocated_in unit = relocated_sections unit.relocations (length unit.sections)

-- by index from 1 on
unfoldable pub object_section_names : UnitValue → List (List ℕ)
object_section_names unit = part_names unit.sections ++ (table_names ++ relocation_names unit)

-- ---- sections

-- what the addresses of code and data are multiples of: a word
abbrev pub section_align : ℕ
section_align = 2

-- what the places of tables are multiples of: a word of the file
abbrev pub table_align : ℕ
table_align = 4

abbrev pub section_type : SectionKind → ℕ
section_type Code = progbits
section_type Data = progbits
section_type Bss = nobits

abbrev pub section_flags : SectionKind → ℕ
section_flags Code = alloc_flag + execute_flag
section_flags Data = write_flag + alloc_flag
section_flags Bss = write_flag + alloc_flag

-- the header of a section of the unit
abbrev pub part_head : SectionValue → ℕ → Head
part_head s name = record { name = name; kind = section_type s.kind; flags = section_flags s.kind; offset = 0; size = s.size; link = 0; info = 0; align = section_align; entry_size = 0 }

-- the unit's section of this index
unfoldable pub part_section : UnitValue → ℕ → SectionValue → FileSection
part_section unit i s = record { head = part_head s (name_at (object_section_names unit) i); content = s.bytes }

unfoldable pub part_sections : UnitValue → List FileSection
part_sections unit = map (λ (p : ℕ × SectionValue). part_section unit p.0 p.1) (enumerate_from 0 unit.sections)

-- the indexes of the tables, counted from section 0
abbrev pub symtab_index : UnitValue → ℕ
symtab_index unit = length unit.sections + 1

abbrev pub strtab_index : UnitValue → ℕ
strtab_index unit = length unit.sections + 2

abbrev pub shstrtab_index : UnitValue → ℕ
shstrtab_index unit = length unit.sections + 3

-- the header of the table of symbols
abbrev pub symbols_head : ℕ → ℕ → UnitValue → Head
symbols_head name size unit = record { name = name; kind = symtab; flags = 0; offset = 0; size = size; link = strtab_index unit; info = first_global unit.symbols; align = table_align; entry_size = symbol_size }

-- the header of a string table
abbrev pub strings_head : ℕ → ℕ → Head
strings_head name size = record { name = name; kind = strtab; flags = 0; offset = 0; size = size; link = 0; info = 0; align = table_align; entry_size = 0 }

-- the header of the relocations of a section, where the table of symbols has this index
abbrev pub relocations_head : ℕ → ℕ → ℕ → ℕ → Head
relocations_head name size symbols section = record { name = name; kind = rela; flags = 0; offset = 0; size = size; link = symbols; info = section + 1; align = table_align; entry_size = relocation_size }

-- `.symtab`
unfoldable pub symtab_section : UnitValue → FileSection
symtab_section unit = let content = symbol_table_bytes unit.symbols in
    record { head = symbols_head (name_at (object_section_names unit) (length unit.sections)) (length content) unit; content = content }

-- `.strtab`: the names of the symbols
unfoldable pub strtab_section : UnitValue → FileSection
strtab_section unit = let content = string_table (symbol_names unit.symbols) in
    record { head = strings_head (name_at (object_section_names unit) (length unit.sections + 1)) (length content); content = content }

-- `.shstrtab`: the names of the sections
unfoldable pub shstrtab_section : UnitValue → FileSection
shstrtab_section unit = let content = string_table (object_section_names unit) in
    record { head = strings_head (name_at (object_section_names unit) (length unit.sections + 2)) (length content); content = content }

-- the relocations of a section, which has this index among those that have some
unfoldable pub relocation_section : UnitValue → ℕ → ℕ → FileSection
relocation_section unit j section = let content = relocation_table unit.relocations section in
    record { head = relocations_head (name_at (object_section_names unit) (length unit.sections + 3 + j)) (length content) (symtab_index unit) section; content = content }

unfoldable pub relocation_sections : UnitValue → List FileSection
relocation_sections unit = map (λ (p : ℕ × ℕ). relocation_section unit p.0 p.1) (enumerate_from 0 (relocated_in unit))

abbrev pub table_sections : UnitValue → List FileSection
table_sections unit = symtab_section unit ∷ strtab_section unit ∷ shstrtab_section unit ∷ []

-- all sections after section 0, in their order
unfoldable pub file_sections : UnitValue → List FileSection
file_sections unit = part_sections unit ++ (table_sections unit ++ relocation_sections unit)

-- ---- the file

-- 7f, `ELF`, 32 bits, the low byte first, the version, and nothing more ("ELF Identification")
abbrev pub identification : List ℕ
identification = 0x7f ∷ 0x45 ∷ 0x4c ∷ 0x46 ∷ class_32 ∷ low_byte_first ∷ current_version ∷ replicate 9 0

-- the file's header, with the place of the header table, the number of sections and the index of the name table
unfoldable pub file_header : ℕ → ℕ → ℕ → List ℕ
file_header table count names =
    identification ++ (half_bytes relocatable ++ (half_bytes msp430 ++ (long_bytes current_version ++ (long_bytes 0 ++ (long_bytes 0 ++ (long_bytes table
    ++ (long_bytes 0 ++ (half_bytes file_header_size ++ (half_bytes 0 ++ (half_bytes 0 ++ (half_bytes section_header_size
    ++ (half_bytes count ++ half_bytes names))))))))))))

-- a header, the contents and the header table, where the name table has this index
unfoldable pub file_bytes : List FileSection → ℕ → List ℕ
file_bytes sections names =
    file_header (file_header_size + length (padded_contents sections)) (length sections + 1) names
    ++ (padded_contents sections ++ header_table sections)

-- the object's bytes
unfoldable pub object_of : UnitValue → List ℕ
object_of unit = file_bytes (file_sections unit) (shstrtab_index unit)
