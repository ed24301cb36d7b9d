-- Relocated fields in a memory, and which are refused.
use Rattle.std.specs.Prelude.{ℤ, ℕ, ◌+◌, List, Option, option_map, option_and_then, Result, ◌%◌, fold, slice_get, ◌-◌, slice_index, pos, ◌+ℤ◌, replicate}
use Rattle.std.specs.Option.{option_map_or}
use Rattle.std.specs.Result.{result_err}
use Rattle.elf_objects.specs.declared.object.SectionHead.{SectionHead}
use Rattle.elf_objects.specs.declared.object.Relocation.{Relocation}
use Rattle.reloc_apply.specs.declared.RelocFault.{RelocFault}
use Rattle.reloc_apply.specs.Fields.{relocated, with_field}
use Rattle.link_symbols.specs.declared.fault.LinkFault.{LinkFault}
use Rattle.mod_layout.specs.First.{first_in}
use Rattle.link_symbols.specs.Passes.{NumberedObject}
use Rattle.linker.specs.Numbers.{Linking, numbers_in}
use Rattle.linker.specs.Bytes.{bytes_put, memory_part}
use Rattle.link_symbols.specs.declared.fault.LinkFault.TheVariants as fault

-- how many bytes a section has in the file
abbrev pub file_size : SectionHead → ℕ
file_size head = head.bytes.end - head.bytes.start

abbrev pub target_address : (ℕ → ℕ) → NumberedObject → Relocation → ℕ
target_address address x r = address (x.first + r.target)

-- symbol plus addend
abbrev pub symbol_sum : List ℕ → Relocation → ℤ
symbol_sum numbers r = pos (slice_index numbers r.symbol) +ℤ r.addend

-- where a field stands
abbrev pub field_place : (ℕ → ℕ) → NumberedObject → Relocation → ℕ
field_place address x r = (target_address address x r + r.offset) % 65536

-- the memory with one field more, in this section
abbrev pub put_field_to : (ℕ → ℕ) → List ℕ → NumberedObject → List ℕ → Relocation → SectionHead → List ℕ
put_field_to address numbers x memory r head =
    let bytes = memory_part memory (target_address address x r) (file_size head) in
    bytes_put memory (target_address address x r) (with_field r.kind (field_place address x r) (symbol_sum numbers r) r.offset bytes)

-- in its target, which is among an object's sections
unfoldable pub put_field : (ℕ → ℕ) → List ℕ → NumberedObject → List ℕ → Relocation → List ℕ
put_field address numbers x memory r =
    option_map_or (put_field_to address numbers x memory r) (slice_get x.object.sections r.target) memory

-- in the order of the object's list; where fields overlap, the later one counts
abbrev pub put_fields : Linking → List ℕ → NumberedObject → List ℕ
put_fields l memory x = fold (put_field l.address (numbers_in l x) x) memory x.object.relocations

-- 8: whether a field is refused does not depend on the bytes
abbrev pub reloc_fault_by : NumberedObject → Relocation → Result (List ℕ) RelocFault → Option LinkFault
reloc_fault_by x r new = option_map (fault.Reloc x.number r.table r.entry) (result_err new)

abbrev pub reloc_fault_to : (ℕ → ℕ) → List ℕ → NumberedObject → Relocation → SectionHead → Option LinkFault
reloc_fault_to address numbers x r head =
    reloc_fault_by x r (relocated r.kind (field_place address x r) (symbol_sum numbers r) r.offset (replicate (file_size head) 0))

unfoldable pub reloc_fault : (ℕ → ℕ) → List ℕ → NumberedObject → Relocation → Option LinkFault
reloc_fault address numbers x r =
    option_and_then (reloc_fault_to address numbers x r) (slice_get x.object.sections r.target)

abbrev pub reloc_fault_in : Linking → NumberedObject → Option LinkFault
reloc_fault_in l x = first_in (reloc_fault l.address (numbers_in l x) x) x.object.relocations
