-- When a relocation applies: what is not refused, by conditions on the number of bytes alone; and what it then writes.
use Rattle.std.specs.Prelude.{◌≡◌, ◌≤◌, ◌≤ℤ◌, ◌↔◌, ℕ, ◌+◌, ◌%◌, ℤ, List, length, drop, true, false, Option, Some, IsOk, Ok}
use Rattle.std.specs.Option.{option_map_or}
use Rattle.byteorder.specs.Endian.{little_number}
use Rattle.reloc_apply.specs.declared.Row.{Row}
use Rattle.reloc_apply.specs.Fields.{row_of, field_size, limit_of, row_size, is_jump_field, is_odd_integer, difference_of, field_value, modulo, relocated, ChangesOnly}

-- a field lies within so many bytes, and its number is in its bounds; a jump's difference is even
pub record FieldTakes (r : Row) (difference : ℤ) (offset size : ℕ) : Type 0 where
  pub within : offset + field_size r.field ≤ size
  pub even : is_jump_field r.field ≡ true → is_odd_integer difference ≡ false
  pub low : r.low ≤ℤ field_value (is_jump_field r.field) difference
  pub high : field_value (is_jump_field r.field) difference ≤ℤ r.high

-- the kind is 0, which writes nothing, or has a field that takes the number
pub data Applies (kind place : ℕ) (sum : ℤ) (offset size : ℕ) : Type 0 where
  no_field : kind ≡ 0 → Applies kind place sum offset size
  a_field : (r : Row) → row_of kind ≡ Some r → FieldTakes r (difference_of r.relative place sum) offset size →
      Applies kind place sum offset size

-- a relocation is taken exactly where it applies
abbrev pub TakenExactly : Type 0
TakenExactly = (kind place : ℕ) (sum : ℤ) (offset : ℕ) (bytes : List ℕ) →
    Applies kind place sum offset (length bytes) ↔ IsOk (relocated kind place sum offset bytes)

-- what a field's numbers are below; with no field there is only 0
abbrev pub limit_by : Option Row → ℕ
limit_by row = option_map_or (λ r. limit_of r.field) row 1

-- the number that a field is given
abbrev pub row_number : Option Row → ℕ → ℤ → ℕ
row_number row place sum =
    option_map_or (λ r. modulo (field_value (is_jump_field r.field) (difference_of r.relative place sum)) (limit_of r.field)) row 0

-- as many bytes, the same outside a field, which holds its number, a jump in its low ten bits
pub record Sets (row : Option Row) (place : ℕ) (sum : ℤ) (offset : ℕ) (old new : List ℕ) : Type 0 where
  pub as_many : length new ≡ length old
  pub elsewhere : ChangesOnly old new offset (row_size row)
  pub number : little_number (row_size row) (drop offset new) % limit_by row ≡ row_number row place sum

-- a relocation that is taken sets its field and nothing else
abbrev pub SetsField : Type 0
SetsField = (kind place : ℕ) (sum : ℤ) (offset : ℕ) (old new : List ℕ) →
    relocated kind place sum offset old ≡ Ok new → Sets (row_of kind) place sum offset old new
