-- Section headers (TIS ELF 1.2, "Sections"), what is loaded, and which sections are refused.
use Rattle.std.specs.Prelude.{ℕ, ◌+◌, ◌*◌, ◌%◌, List, [], ◌∷◌, length, take, drop, Bool, false, not, ◌&&◌, ◌||◌, ◌==◌, nat_lt, if◌then◌else◌, Option}
use Rattle.std.specs.Bool.{then_some}
use Rattle.std.specs.Option.{option_map_or}
use Rattle.std.specs.List.{list_any}
use Rattle.elf_objects.specs.declared.fault.ElfFault.{ElfFault}
use Rattle.elf_objects.specs.declared.fault.ElfFault.TheVariants as fault
use Rattle.elf_objects.specs.declared.section.Header.{Header}
use Rattle.elf_objects.specs.declared.object.Span.{Span}
use Rattle.elf_objects.specs.Bytes.{long_at}
use Rattle.elf_objects.specs.Numbers.{section_header_size, null, symtab, strtab, rela, nobits, rel, alloc_flag, compressed_flag, has_flag, symbol_size, relocation_size}
use Rattle.elf_objects.specs.Passes.{first_below}
use Rattle.std.specs.Option.{option_or}
use Rattle.elf_objects.specs.Header.{table_offset, section_count, name_table}

-- the header of this index, the fields that are looked at
unfoldable pub header_of : List ℕ → ℕ → Header
header_of file index = let at = table_offset file + section_header_size * index in record {
  name = long_at file at;
  kind = long_at file (at + 4);
  flags = long_at file (at + 8);
  offset = long_at file (at + 16);
  size = long_at file (at + 20);
  link = long_at file (at + 24);
  info = long_at file (at + 28);
  align = long_at file (at + 32);
  entry_size = long_at file (at + 36);
}

-- NULL and NOBITS have no bytes in the file
abbrev pub is_absent : Header → Bool
is_absent h = h.kind == null || h.kind == nobits

-- a kind and flags are loaded: with the alloc flag, and none of NULL, SYMTAB, STRTAB, RELA and REL
abbrev pub is_loaded : ℕ → ℕ → Bool
is_loaded kind flags = has_flag flags alloc_flag && not (kind == null || kind == symtab || kind == strtab || kind == rela || kind == rel)

abbrev pub is_loaded_header : Header → Bool
is_loaded_header h = is_loaded h.kind h.flags

-- 0 or a power of two up to 32,768
abbrev pub is_alignment : ℕ → Bool
is_alignment n = list_any (λ a. n == a) (0 ∷ 1 ∷ 2 ∷ 4 ∷ 8 ∷ 16 ∷ 32 ∷ 64 ∷ 128 ∷ 256 ∷ 512 ∷ 1024 ∷ 2048 ∷ 4096 ∷ 8192 ∷ 16384 ∷ 32768 ∷ [])

-- its bytes, as far as they are in the file
abbrev pub content : List ℕ → Header → List ℕ
content file h = take h.size (drop h.offset file)

-- its bytes end past the file
abbrev pub ends_past : List ℕ → Header → Bool
ends_past file h = nat_lt (length file) (h.offset + h.size)

-- at an index: bytes past the file, or a loaded section whose alignment is none
unfoldable pub section_fault : List ℕ → ℕ → Option ElfFault
section_fault file i = let h = header_of file i in
    then_some ((not (is_absent h) && ends_past file h) || (is_loaded_header h && not (is_alignment h.align))) (fault.Section i)

-- a section of this index and kind is there
abbrev pub is_kind : List ℕ → ℕ → ℕ → Bool
is_kind file kind i = nat_lt i (section_count file) && (header_of file i).kind == kind

abbrev pub index_if : Bool → ℕ → Option ℕ
index_if found i = then_some found i

-- the first SYMTAB
unfoldable pub symbol_table : List ℕ → Option ℕ
symbol_table file = first_below (λ i. index_if ((header_of file i).kind == symtab) i) (section_count file)

abbrev pub is_this : Option ℕ → ℕ → Bool
is_this found i = option_map_or (λ s. i == s) found false

-- a SYMTAB that is not the first one, or whose link is no STRTAB, or whose entries do not have their size
abbrev pub is_bad_symbol_table : List ℕ → ℕ → Header → Bool
is_bad_symbol_table file i h =
    not (is_this (symbol_table file) i) || not (is_kind file strtab h.link) || not (h.entry_size == symbol_size) || not (h.size % symbol_size == 0)

-- the RELA of a loaded section
abbrev pub is_kept_table : List ℕ → Header → Bool
is_kept_table file h = h.kind == rela && is_loaded_header (header_of file h.info)

-- the RELA's link is not the SYMTAB, or its entries do not have their size
abbrev pub is_bad_kept_table : List ℕ → Header → Bool
is_bad_kept_table file h = not (is_this (symbol_table file) h.link) || not (h.entry_size == relocation_size) || not (h.size % relocation_size == 0)

abbrev pub is_bad_link : List ℕ → ℕ → Header → Bool
is_bad_link file i h =
    (i == name_table file && not (h.kind == strtab))
    || (h.kind == symtab && is_bad_symbol_table file i h)
    || ((h.kind == rela || h.kind == rel) && not (nat_lt h.info (section_count file)))
    || (is_kept_table file h && is_bad_kept_table file h)

-- at an index: what it points to is not what it must be
unfoldable pub link_fault : List ℕ → ℕ → Option ElfFault
link_fault file i = then_some (is_bad_link file i (header_of file i)) (fault.Link i)

-- no section has the name table's index
unfoldable pub name_table_fault : List ℕ → Option ElfFault
name_table_fault file = then_some (not (nat_lt (name_table file) (section_count file))) (fault.Link (name_table file))

-- at an index: a loaded section with the flag compressed
unfoldable pub compressed_fault : List ℕ → ℕ → Option ElfFault
compressed_fault file i = let h = header_of file i in
    then_some (is_loaded_header h && has_flag h.flags compressed_flag) (fault.Compressed i)

-- at an index: a REL of a loaded section
unfoldable pub rel_fault : List ℕ → ℕ → Option ElfFault
rel_fault file i = let h = header_of file i in
    then_some (h.kind == rel && is_loaded_header (header_of file h.info)) (fault.RelSection i)

-- what is given of a section's bytes
abbrev pub content_span : Header → Span
content_span h = if is_absent h then record { start = 0; end = 0 } else record { start = h.offset; end = h.offset + h.size }

-- the refusals Section, Link, Compressed and RelSection, each at the lowest index that has it
unfoldable pub section_faults : List ℕ → Option ElfFault
section_faults file = first_below (section_fault file) (section_count file)

unfoldable pub link_faults : List ℕ → Option ElfFault
link_faults file = option_or (first_below (link_fault file) (section_count file)) (name_table_fault file)

unfoldable pub compressed_faults : List ℕ → Option ElfFault
compressed_faults file = first_below (compressed_fault file) (section_count file)

unfoldable pub rel_faults : List ℕ → Option ElfFault
rel_faults file = first_below (rel_fault file) (section_count file)
