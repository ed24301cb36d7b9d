-- What a relocation of the MSP430 makes of a section's bytes, and when it is refused. The kinds are those
-- of ELF for machine 105.
use Rattle.std.specs.Prelude.{◌≡◌, ◌<◌, ◌≤◌, ℕ, ◌+◌, ◌-◌, ◌*◌, ◌/◌, ◌%◌, ℤ, pos, negsuc, ◌-ℤ◌, int_div, int_le, unsigned_abs, List, length, take, drop, ◌++◌, slice_index, Bool, true, false, not, ◌&&◌, ◌||◌, ◌==◌, nat_lt, if◌then◌else◌, Option, Some, None, Result, Ok, Err}
use Rattle.std.specs.Option.{option_map_or}
use Rattle.byteorder.specs.Endian.{little_number, little_bytes}
use Rattle.reloc_apply.specs.declared.RelocFault.{RelocFault}
use Rattle.reloc_apply.specs.declared.RelocFault.TheVariants as fault
use Rattle.reloc_apply.specs.declared.Row.{Row}
use Rattle.reloc_apply.specs.declared.Field.{Field}
use Rattle.reloc_apply.specs.declared.Field.TheVariants as field

abbrev pub row : Field → Bool → ℤ → ℤ → Option Row
row f relative low high = Some (record { field = f; relative = relative; low = low; high = high })

-- the kinds that have a field: which one, whether its value is relative to its place, and the value's bounds
unfoldable pub row_of : ℕ → Option Row
row_of kind =
    -- R_MSP430_32
    if kind == 1 then row field.Word false (negsuc 2147483647) (pos 4294967295)
    -- R_MSP430_10_PCREL
    else if kind == 2 then row field.Jump true (negsuc 511) (pos 511)
    -- R_MSP430_16, R_MSP430_16_BYTE
    else if kind == 3 || kind == 5 then row field.Half false (negsuc 32767) (pos 65535)
    -- R_MSP430_16_PCREL, R_MSP430_16_PCREL_BYTE
    else if kind == 4 || kind == 6 then row field.Half true (negsuc 65534) (pos 65535)
    -- R_MSP430_8
    else if kind == 9 then row field.Byte false (negsuc 127) (pos 255)
    else None

-- how many bytes a field lies in
abbrev pub field_size : Field → ℕ
field_size field.Byte = 1
field_size field.Half = 2
field_size field.Word = 4
field_size field.Jump = 2

-- what a field's numbers are below
abbrev pub limit_of : Field → ℕ
limit_of field.Byte = 256
limit_of field.Half = 65536
limit_of field.Word = 4294967296
limit_of field.Jump = 1024

abbrev pub is_jump_field : Field → Bool
is_jump_field field.Byte = false
is_jump_field field.Half = false
is_jump_field field.Word = false
is_jump_field field.Jump = true

-- symbol plus addend, less the place where the kind is relative
abbrev pub difference_of : Bool → ℕ → ℤ → ℤ
difference_of relative place sum = if relative then sum -ℤ pos place else sum

-- a jump counts words from the one that follows it
abbrev pub field_value : Bool → ℤ → ℤ
field_value jump difference = if jump then int_div difference (pos 2) -ℤ pos 1 else difference

-- a negative value is taken modulo its field
abbrev pub modulo : ℤ → ℕ → ℕ
modulo (pos n) limit = n % limit
modulo (negsuc n) limit = limit - 1 - n % limit

-- a jump keeps the six high bits of its word
abbrev pub kept_of : Bool → List ℕ → ℕ → ℕ
kept_of jump bytes offset = if jump then little_number 2 (drop offset bytes) / 1024 * 1024 else 0

-- these bytes with so many at an offset replaced by a number, the low byte first
abbrev pub with_number : List ℕ → ℕ → ℕ → ℕ → List ℕ
with_number bytes offset size number = take offset bytes ++ (little_bytes size number ++ drop (offset + size) bytes)

abbrev pub is_odd_integer : ℤ → Bool
is_odd_integer difference = unsigned_abs difference % 2 == 1

abbrev pub is_in_bounds : Row → ℤ → Bool
is_in_bounds r value = int_le r.low value && int_le value r.high

-- the bytes with a value in their field
abbrev pub with_value : Row → ℕ → List ℕ → ℤ → List ℕ
with_value r offset bytes value =
    with_number bytes offset (field_size r.field) (kept_of (is_jump_field r.field) bytes offset + modulo value (limit_of r.field))

-- the value is written, if it is in its bounds
unfoldable pub field_written : Row → ℕ → List ℕ → ℤ → Result (List ℕ) RelocFault
field_written r offset bytes value =
    if not (is_in_bounds r value) then Err (fault.Range value) else Ok (with_value r offset bytes value)

-- the field lies in the section, and a jump's difference is even
unfoldable pub relocated_by : Row → ℤ → ℕ → List ℕ → Result (List ℕ) RelocFault
relocated_by r difference offset bytes =
    if nat_lt (length bytes) (offset + field_size r.field) then Err fault.Outside
    else if is_jump_field r.field && is_odd_integer difference then Err (fault.Odd difference)
    else field_written r offset bytes (field_value (is_jump_field r.field) difference)

abbrev pub relocated_at : Option Row → ℕ → ℕ → ℤ → ℕ → List ℕ → Result (List ℕ) RelocFault
relocated_at None kind place sum offset bytes = Err (fault.Kind kind)
relocated_at (Some r) kind place sum offset bytes = relocated_by r (difference_of r.relative place sum) offset bytes

-- the section's bytes with the field, or why it is refused; kind 0 writes nothing
unfoldable pub relocated : ℕ → ℕ → ℤ → ℕ → List ℕ → Result (List ℕ) RelocFault
relocated kind place sum offset bytes =
    if kind == 0 then Ok bytes else relocated_at (row_of kind) kind place sum offset bytes

-- what the bytes become where nothing is refused; a kind without a field writes nothing
unfoldable pub with_field : ℕ → ℕ → ℤ → ℕ → List ℕ → List ℕ
with_field kind place sum offset bytes =
    option_map_or (λ r. with_value r offset bytes (field_value (is_jump_field r.field) (difference_of r.relative place sum))) (row_of kind) bytes

-- each byte outside of these is as it was
pub record ChangesOnly (old new : List ℕ) (offset size : ℕ) : Type 0 where
  pub before : (k : ℕ) → k < offset → slice_index new k ≡ slice_index old k
  pub after : (k : ℕ) → offset + size ≤ k → slice_index new k ≡ slice_index old k

-- how many bytes a kind's field lies in
abbrev pub row_size : Option Row → ℕ
row_size found = option_map_or (λ r. field_size r.field) found 0
