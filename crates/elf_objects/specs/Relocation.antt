-- Relocations of loaded sections (TIS ELF 1.2, "Relocation"), and which are refused.
use Rattle.std.specs.Prelude.{ℕ, ◌+◌, ◌*◌, ◌/◌, ◌%◌, List, [], not, nat_lt, if◌then◌else◌, Option, None}
use Rattle.std.specs.Int.{w32, cast_signed}
use Rattle.elf_objects.specs.declared.fault.ElfFault.{ElfFault}
use Rattle.elf_objects.specs.declared.fault.ElfFault.TheVariants as fault
use Rattle.elf_objects.specs.declared.section.Header.{Header}
use Rattle.elf_objects.specs.declared.object.Relocation.{Relocation}
use Rattle.elf_objects.specs.Bytes.{long_at}
use Rattle.elf_objects.specs.Numbers.{relocation_size}
use Rattle.elf_objects.specs.Passes.{first_below, each_below, all_below}
use Rattle.std.specs.Bool.{then_some}
use Rattle.elf_objects.specs.Header.{section_count}
use Rattle.elf_objects.specs.Section.{header_of, is_kept_table}
use Rattle.elf_objects.specs.Symbol.{count_of, symbols_header}

-- the relocation of this place of a table; the addend is signed
unfoldable pub relocation_of : List ℕ → ℕ → Header → ℕ → Relocation
relocation_of file index table entry = let at = table.offset + relocation_size * entry in record {
  table = index;
  entry = entry;
  target = table.info;
  offset = long_at file at;
  symbol = long_at file (at + 4) / 256;
  kind = long_at file (at + 4) % 256;
  addend = cast_signed w32 (long_at file (at + 8));
}

-- at one entry: with so many symbols in all
unfoldable pub entry_fault : List ℕ → ℕ → ℕ → Header → ℕ → Option ElfFault
entry_fault file symbols index table entry =
    then_some (not (nat_lt ((relocation_of file index table entry).symbol) symbols)) (fault.Relocation index entry)

-- at one section
unfoldable pub relocation_fault : List ℕ → ℕ → ℕ → Option ElfFault
relocation_fault file symbols i = let h = header_of file i in
    if is_kept_table file h then first_below (entry_fault file symbols i h) (h.size / relocation_size) else None

unfoldable pub relocation_faults : List ℕ → Option ElfFault
relocation_faults file = first_below (relocation_fault file (count_of (symbols_header file))) (section_count file)

-- the relocations of one section
unfoldable pub relocations_at : List ℕ → ℕ → List Relocation
relocations_at file i = let h = header_of file i in
    if is_kept_table file h then each_below (relocation_of file i h) (h.size / relocation_size) else []

-- those of all sections, in order of section and then entry
unfoldable pub relocations_of : List ℕ → List Relocation
relocations_of file = all_below (relocations_at file) (section_count file)
