-- Symbols (TIS ELF 1.2, "Symbol Table"), and which are refused.
use Rattle.std.specs.Prelude.{ℕ, zero, suc, ◌+◌, ◌*◌, ◌/◌, List, [], slice_index, Bool, not, ◌&&◌, ◌||◌, ◌==◌, nat_lt, if◌then◌else◌, Option, None, is_none, option_map, option_and_then}
use Rattle.std.specs.Option.{option_map_or}
use Rattle.elf_objects.specs.declared.fault.ElfFault.{ElfFault}
use Rattle.elf_objects.specs.declared.fault.ElfFault.TheVariants as fault
use Rattle.elf_objects.specs.declared.section.Header.{Header}
use Rattle.elf_objects.specs.declared.symbol.Entry.{Entry}
use Rattle.elf_objects.specs.declared.object.Symbol.{Symbol}
use Rattle.elf_objects.specs.declared.object.Binding.{Binding}
use Rattle.elf_objects.specs.declared.object.Binding.TheVariants as binding
use Rattle.elf_objects.specs.declared.object.Home.{Home}
use Rattle.elf_objects.specs.declared.object.Home.TheVariants as home
use Rattle.elf_objects.specs.Bytes.{half_at, long_at}
use Rattle.elf_objects.specs.Numbers.{undefined_index, absolute_index, common_index, symbol_size, local_binding, weak_binding}
use Rattle.elf_objects.specs.Passes.{first_below, each_below}
use Rattle.std.specs.Bool.{then_some}
use Rattle.elf_objects.specs.Header.{section_count}
use Rattle.elf_objects.specs.Section.{header_of, symbol_table, is_alignment}
use Rattle.elf_objects.specs.Names.{name_end, name_span}

-- the entry of this index of a symbol table
unfoldable pub table_entry : List ℕ → Header → ℕ → Entry
table_entry file table index = let at = table.offset + symbol_size * index in record {
  name = long_at file at;
  value = long_at file (at + 4);
  size = long_at file (at + 8);
  binding = slice_index file (at + 12) / 16;
  section = half_at file (at + 14);
}

abbrev pub count_in : Header → ℕ
count_in table = table.size / symbol_size

-- the symbols' string table
abbrev pub strings_of : List ℕ → Header → Header
strings_of file table = header_of file table.link

-- a common that is local, or whose value is no alignment
abbrev pub is_bad_common : Entry → Bool
is_bad_common e = e.section == common_index && (e.binding == local_binding || not (is_alignment e.value))

-- the section's index is none of a section, absolute and common
abbrev pub is_bad_home : List ℕ → Entry → Bool
is_bad_home file e = not (nat_lt e.section (section_count file)) && not (e.section == absolute_index) && not (e.section == common_index)

abbrev pub is_bad_symbol : List ℕ → Header → Entry → Bool
is_bad_symbol file table e =
    is_none (name_end file (strings_of file table) e.name) || nat_lt weak_binding e.binding || is_bad_home file e || is_bad_common e

-- at an index, from 1 on
unfoldable pub symbol_fault : List ℕ → Header → ℕ → Option ElfFault
symbol_fault file table zero = None
symbol_fault file table (suc k) = then_some (is_bad_symbol file table (table_entry file table (suc k))) (fault.Symbol (suc k))

abbrev pub binding_of : ℕ → Binding
binding_of zero = binding.Local
binding_of (suc zero) = binding.Global
binding_of (suc (suc n)) = binding.Weak

abbrev pub home_of : ℕ → Home
home_of n = if n == undefined_index then home.Undefined else if n == absolute_index then home.Absolute else if n == common_index then home.Common else home.In n

-- symbol 0 is given as nothing, whatever its bytes are
unfoldable pub symbol_of : List ℕ → Header → ℕ → Symbol
symbol_of file table zero = record { name = record { start = 0; end = 0 }; value = 0; size = 0; binding = binding.Local; home = home.Undefined }
symbol_of file table (suc k) = let e = table_entry file table (suc k) in record {
  name = name_span file (strings_of file table) e.name;
  value = e.value;
  size = e.size;
  binding = binding_of e.binding;
  home = home_of e.section;
}

-- the file's symbol table, if there is one
unfoldable pub symbols_header : List ℕ → Option Header
symbols_header file = option_map (header_of file) (symbol_table file)

abbrev pub count_of : Option Header → ℕ
count_of table = option_map_or count_in table 0

abbrev pub faults_in : List ℕ → Option Header → Option ElfFault
faults_in file table = option_and_then (λ t. first_below (symbol_fault file t) (count_in t)) table

unfoldable pub symbol_faults : List ℕ → Option ElfFault
symbol_faults file = faults_in file (symbols_header file)

abbrev pub symbols_in : List ℕ → Option Header → List Symbol
symbols_in file table = option_map_or (λ t. each_below (symbol_of file t) (count_in t)) table []

unfoldable pub symbols_of : List ℕ → List Symbol
symbols_of file = symbols_in file (symbols_header file)
