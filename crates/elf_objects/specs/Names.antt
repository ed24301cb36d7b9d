-- Names in a string table (TIS ELF 1.2, "String Table"), and the sections with theirs.
use Rattle.std.specs.Prelude.{ℕ, ◌+◌, List, drop, not, ◌==◌, Option, is_none}
use Rattle.std.specs.List.{position_from, prefix_len}
use Rattle.elf_objects.specs.declared.fault.ElfFault.{ElfFault}
use Rattle.elf_objects.specs.declared.fault.ElfFault.TheVariants as fault
use Rattle.elf_objects.specs.declared.section.Header.{Header}
use Rattle.elf_objects.specs.declared.object.Span.{Span}
use Rattle.elf_objects.specs.declared.object.SectionHead.{SectionHead}
use Rattle.elf_objects.specs.Passes.{first_below, each_below}
use Rattle.std.specs.Bool.{then_some}
use Rattle.elf_objects.specs.Header.{section_count, name_table}
use Rattle.elf_objects.specs.Section.{header_of, content, content_span}

-- where the name that starts at this offset of these bytes ends: at the first 0 from there on
abbrev pub end_in : List ℕ → ℕ → Option ℕ
end_in bytes offset = position_from (λ b. b == 0) offset (drop offset bytes)

-- the same in a string table
unfoldable pub name_end : List ℕ → Header → ℕ → Option ℕ
name_end file strings offset = end_in (content file strings) offset

-- the name's place in the file: the bytes from this offset on that come before a 0
abbrev pub name_span : List ℕ → Header → ℕ → Span
name_span file strings offset = record {
  start = strings.offset + offset;
  end = strings.offset + (offset + prefix_len (λ b. not (b == 0)) (drop offset (content file strings)));
}

-- where the sections' names are
abbrev pub names_header : List ℕ → Header
names_header file = header_of file (name_table file)

-- at an index: the name does not start or does not end in the table
unfoldable pub name_fault : List ℕ → ℕ → Option ElfFault
name_fault file i = then_some (is_none (name_end file (names_header file) (header_of file i).name)) (fault.Name i)

unfoldable pub name_faults : List ℕ → Option ElfFault
name_faults file = first_below (name_fault file) (section_count file)

-- what is given of a section
unfoldable pub section_of : List ℕ → ℕ → SectionHead
section_of file i = let h = header_of file i in record {
  name = name_span file (names_header file) h.name;
  kind = h.kind;
  flags = h.flags;
  size = h.size;
  align = h.align;
  bytes = content_span h;
}

unfoldable pub sections_of : List ℕ → List SectionHead
sections_of file = each_below (section_of file) (section_count file)
