-- A relocation that is taken sets its field and nothing else.
use Rattle.std.proofs.Common.{◌≡◌, ◌⊎◌, inl, inr, ℕ, ◌+◌, ◌*◌, ◌/◌, ◌%◌, ◌<◌, ◌≤◌, ◌++◌, ℤ, List, length, take, drop, get_or, length-take, Some, None, Result, Ok, Bool, true, false, IsOk, refl, sym, ◌∙◌, ap, subst, arith}
use Rattle.std.specs.Prelude.{slice_index}
use Rattle.std.proofs.lemmas.List.{get_or_append_left, get_or-append_right, get_or-drop}
use Rattle.byteorder.specs.Endian.{little_number, little_bytes}
use Rattle.byteorder.specs.Numbers.{length-bytes_low_first}
use Rattle.reloc_apply.specs.declared.RelocFault.{RelocFault}
use Rattle.reloc_apply.specs.declared.Field.{Field}
use Rattle.reloc_apply.specs.declared.Field.TheVariants as field
use Rattle.reloc_apply.specs.declared.Row.{Row}
use Rattle.reloc_apply.specs.Fields.{relocated, with_field, row_of, row_size, field_size, limit_of, is_jump_field, difference_of, field_value, modulo, kept_of, with_number}
use Rattle.reloc_apply.specs.Applies.{FieldTakes, Applies, no_field, a_field, Sets}
use Rattle.reloc_apply.proofs.AppliesLemmas.{number_of, ok_applies, applies_gives, none_at_0}
use Rattle.reloc_apply.proofs.FieldLemmas.{changes_only}
use Rattle.reloc_apply.proofs.FaultLemmas.{number_size}

-- the bytes of the number in place of some bytes
number_in : (bytes : List ℕ) (offset size number n : ℕ) → offset ≤ length bytes → n < size →
    slice_index (drop offset (with_number bytes offset size number)) n ≡ slice_index (little_bytes size number) n
number_in bytes offset size number n h l =
    get_or-drop offset (with_number bytes offset size number) n 0
    ∙ (get_or-append_right (take offset bytes) (little_bytes size number ++ drop (offset + size) bytes) offset (offset + n) 0 (omega (arith, length-take {A = ℕ})) (omega arith)
    ∙ (ap (λ (i : ℕ). get_or (little_bytes size number ++ drop (offset + size) bytes) i 0) (omega arith)
    ∙ get_or_append_left (little_bytes size number) (drop (offset + size) bytes) 0 n (let w : length (little_bytes size number) ≡ size = length-bytes_low_first 0 size number in omega (arith, w))))

value_by : (f : Field) (m : List ℕ) (number : ℕ) →
    ((n : ℕ) → n < field_size f → slice_index m n ≡ slice_index (little_bytes (field_size f) number) n) →
    little_number (field_size f) m % limit_of f ≡ number % limit_of f
value_by field.Byte m number h =
    let a : slice_index m 0 ≡ number % 256 = h 0 (omega arith) in
    omega (arith, a)
value_by field.Half m number h =
    let a : slice_index m 0 ≡ number % 256 = h 0 (omega arith) in
    let b : slice_index m 1 ≡ number / 256 % 256 = h 1 (omega arith) in
    omega (arith, a, b)
value_by field.Jump m number h =
    let a : slice_index m 0 ≡ number % 256 = h 0 (omega arith) in
    let b : slice_index m 1 ≡ number / 256 % 256 = h 1 (omega arith) in
    omega (arith, a, b)
value_by field.Word m number h =
    let a : slice_index m 0 ≡ number % 256 = h 0 (omega arith) in
    let b : slice_index m 1 ≡ number / 256 % 256 = h 1 (omega arith) in
    let c : slice_index m 2 ≡ number / 65536 % 256 = h 2 (omega arith) in
    let d : slice_index m 3 ≡ number / 16777216 % 256 = h 3 (omega arith) in
    omega (arith, a, b, c, d)

kept_by : (j : Bool) (bytes : List ℕ) (offset : ℕ) →
    (kept_of j bytes offset ≡ 0) ⊎ ((j ≡ true) × ((n : ℕ) × (kept_of j bytes offset ≡ n * 1024)))
kept_by false bytes offset = inl refl
kept_by true bytes offset = inr (refl, (little_number 2 (drop offset bytes) / 1024, refl))

below : (v : ℤ) (f : Field) → modulo v (limit_of f) < limit_of f
below (ℤ.pos n) field.Byte = omega arith
below (ℤ.pos n) field.Half = omega arith
below (ℤ.pos n) field.Word = omega arith
below (ℤ.pos n) field.Jump = omega arith
below (ℤ.negsuc n) field.Byte = omega arith
below (ℤ.negsuc n) field.Half = omega arith
below (ℤ.negsuc n) field.Word = omega arith
below (ℤ.negsuc n) field.Jump = omega arith

remains : (f : Field) (kept n : ℕ) → (kept ≡ 0) ⊎ ((is_jump_field f ≡ true) × ((q : ℕ) × (kept ≡ q * 1024))) →
    n < limit_of f → (kept + n) % limit_of f ≡ n
remains field.Byte kept n (inl e) h = omega arith
remains field.Half kept n (inl e) h = omega arith
remains field.Word kept n (inl e) h = omega arith
remains field.Jump kept n (inl e) h = omega arith
remains field.Jump kept n (inr p) h = let e = p.1.1 in omega (arith, e)
remains field.Byte kept n (inr p) h = let e : false ≡ true = p.0 in cc
remains field.Half kept n (inr p) h = let e : false ≡ true = p.0 in cc
remains field.Word kept n (inr p) h = let e : false ≡ true = p.0 in cc

sets_none : (place : ℕ) (sum : ℤ) (offset : ℕ) (bytes : List ℕ) → Sets None place sum offset bytes bytes
sets_none place sum offset bytes = record { as_many = refl; elsewhere = record { before = λ k h. refl; after = λ k h. refl }; number = refl }

sets_some : (r : Row) (place : ℕ) (sum : ℤ) (offset : ℕ) (bytes : List ℕ) →
    FieldTakes r (difference_of r.relative place sum) offset (length bytes) →
    Sets (Some r) place sum offset bytes (with_number bytes offset (field_size r.field) (number_of r (difference_of r.relative place sum) bytes offset))
sets_some r place sum offset bytes t =
    let d = difference_of r.relative place sum in
    let number = number_of r d bytes offset in
    let w = t.within in
    record {
      as_many = number_size bytes offset (field_size r.field) number w;
      elsewhere = changes_only bytes offset (field_size r.field) number w;
      number = value_by r.field (drop offset (with_number bytes offset (field_size r.field) number)) number (λ n h. number_in bytes offset (field_size r.field) number n (omega (arith, w)) h)
          ∙ remains r.field (kept_of (is_jump_field r.field) bytes offset) (modulo (field_value (is_jump_field r.field) d) (limit_of r.field)) (kept_by (is_jump_field r.field) bytes offset) (below (field_value (is_jump_field r.field) d) r.field);
    }

-- what a relocation that applies makes of the bytes
pub applies_sets : (kind place : ℕ) (sum : ℤ) (offset : ℕ) (bytes : List ℕ) →
    Applies kind place sum offset (length bytes) → Sets (row_of kind) place sum offset bytes (with_field kind place sum offset bytes)
unfolding with_field
applies_sets kind place sum offset bytes (no_field z) =
    let none : row_of kind ≡ None = ap row_of z ∙ none_at_0 in rw none (sets_none place sum offset bytes)
applies_sets kind place sum offset bytes (a_field r e t) = rw e (sets_some r place sum offset bytes t)

same_ok : (a b : List ℕ) → (let r : Result (List ℕ) RelocFault = Ok a in r) ≡ Ok b → a ≡ b
same_ok a b e = cc

pub sets_field : (kind place : ℕ) (sum : ℤ) (offset : ℕ) (old new : List ℕ) →
    relocated kind place sum offset old ≡ Ok new → Sets (row_of kind) place sum offset old new
sets_field kind place sum offset old new e =
    let a = ok_applies kind place sum offset old (subst (λ (r : Result (List ℕ) RelocFault). IsOk r) (sym e) refl) in
    let same = same_ok (with_field kind place sum offset old) new (sym (applies_gives kind place sum offset old a) ∙ e) in
    subst (Sets (row_of kind) place sum offset old) same (applies_sets kind place sum offset old a)

-- a field lies within the bytes
pub width_within : (kind place : ℕ) (sum : ℤ) (offset size : ℕ) → Applies kind place sum offset size →
    (row_size (row_of kind) ≡ 0) ⊎ (offset + row_size (row_of kind) ≤ size)
width_within kind place sum offset size (no_field z) = inl (ap row_size (ap row_of z ∙ none_at_0))
width_within kind place sum offset size (a_field r e t) = inr (let w = t.within in let q : row_size (row_of kind) ≡ field_size r.field = ap row_size e in omega (arith, w, q))
