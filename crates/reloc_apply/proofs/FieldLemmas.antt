-- A field's number fits its bytes, and no other byte is written.
use Rattle.std.proofs.Common.{◌≡◌, ◌<◌, ◌≤◌, ℕ, ◌+◌, ◌-◌, ◌^◌, List, length, take, drop, ◌++◌, get_or, ◌∙◌, ap, arith, length-take}
use Rattle.std.proofs.lemmas.List.{get_or_append_left, get_or-append_right, get_or-take, get_or-drop}
use Rattle.byteorder.specs.Endian.{little_bytes}
use Rattle.byteorder.specs.Numbers.{length-bytes_low_first}
use Rattle.reloc_apply.specs.declared.Field.{Field}
use Rattle.reloc_apply.specs.declared.Field.TheVariants as field
use Rattle.reloc_apply.specs.Fields.{field_size, limit_of, is_jump_field, kept_of, with_number, ChangesOnly}

-- what a field keeps and takes is below 256 to the power of its size
pub fits : (f : Field) (bytes : List ℕ) (offset number : ℕ) → kept_of (is_jump_field f) bytes offset ≤ 64512 → number < limit_of f → kept_of (is_jump_field f) bytes offset + number < 256 ^ field_size f
fits field.Byte bytes offset number kept below = omega arith
fits _ bytes offset number kept below = omega arith

before_number : (bytes : List ℕ) (offset size number k : ℕ) → offset + size ≤ length bytes → k < offset → get_or (with_number bytes offset size number) k 0 ≡ get_or bytes k 0
before_number bytes offset size number k within lt =
    get_or_append_left (take offset bytes) (little_bytes size number ++ drop (offset + size) bytes) 0 k (omega (arith, length-take {A = ℕ}))
    ∙ get_or-take offset bytes k 0 lt

after_number : (bytes : List ℕ) (offset size number k : ℕ) → offset + size ≤ length bytes → offset + size ≤ k → get_or (with_number bytes offset size number) k 0 ≡ get_or bytes k 0
after_number bytes offset size number k within le =
    get_or-append_right (take offset bytes) (little_bytes size number ++ drop (offset + size) bytes) offset k 0 (omega (arith, length-take {A = ℕ})) (omega arith)
    ∙ get_or-append_right (little_bytes size number) (drop (offset + size) bytes) size (k - offset) 0 (length-bytes_low_first 0 size number) (omega arith)
    ∙ get_or-drop (offset + size) bytes (k - offset - size) 0
    ∙ ap (λ (i : ℕ). get_or bytes i 0) (omega arith)

-- a number in place of so many bytes changes no other
pub changes_only : (bytes : List ℕ) (offset size number : ℕ) → offset + size ≤ length bytes → ChangesOnly bytes (with_number bytes offset size number) offset size
changes_only bytes offset size number within = record {
  before = λ k lt. before_number bytes offset size number k within lt;
  after = λ k le. after_number bytes offset size number k within le;
}
