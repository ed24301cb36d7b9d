-- A relocation is taken exactly where it applies.
use Rattle.std.proofs.Common.{◌≡◌, ◌≤ℤ◌, ◌↔◌, ℕ, ◌+◌, ℤ, int_le, List, length, Option, Some, None, Result, Ok, Err, Bool, true, false, not, ◌&&◌, ◌==◌, T, IsOk, refl, sym, ◌∙◌, ap, subst, arith}
use Rattle.std.specs.Prelude.{if◌then◌else◌, nat_lt}
use Rattle.std.proofs.lemmas.Bool.{and_parts}
use Rattle.std.proofs.lemmas.Bool.Decides.{nat_tests}
use Rattle.reloc_apply.specs.declared.RelocFault.{RelocFault}
use Rattle.reloc_apply.specs.declared.RelocFault.TheVariants as fault
use Rattle.reloc_apply.specs.declared.Row.{Row}
use Rattle.reloc_apply.specs.Fields.{relocated, relocated_by, relocated_at, field_written, with_field, row_of, field_size, limit_of, is_in_bounds, is_odd_integer, is_jump_field, difference_of, field_value, kept_of, modulo, with_number}
use Rattle.reloc_apply.specs.Applies.{FieldTakes, Applies, no_field, a_field}

-- the number that a field is given
abbrev pub number_of : Row → ℤ → List ℕ → ℕ → ℕ
number_of r d bytes offset = kept_of (is_jump_field r.field) bytes offset + modulo (field_value (is_jump_field r.field) d) (limit_of r.field)

holds : (b : Bool) → b ≡ true → T b
holds true e = tt
holds false e = cc

is_held : (b : Bool) → T b → b ≡ true
is_held true t = refl
is_held false t = absurd t

at_most : (a b : ℤ) → int_le a b ≡ true → a ≤ℤ b
at_most a b e = record { le = holds (int_le a b) e }

tested : (a b : ℤ) → a ≤ℤ b → int_le a b ≡ true
tested a b h = is_held (int_le a b) h.le

odd_not : (j o : Bool) → (j && o) ≡ false → j ≡ true → o ≡ false
odd_not true o e h = e
odd_not false o e h = cc

none_odd : (j o : Bool) → (j ≡ true → o ≡ false) → (j && o) ≡ false
none_odd true o h = h refl
none_odd false o h = refl

takes_by : (r : Row) (d : ℤ) (offset : ℕ) (bytes new : List ℕ) (a b c : Bool) →
    nat_lt (length bytes) (offset + field_size r.field) ≡ a → (is_jump_field r.field && is_odd_integer d) ≡ b →
    is_in_bounds r (field_value (is_jump_field r.field) d) ≡ c →
    IsOk {T = List ℕ} {E = RelocFault} (if a then Err fault.Outside else if b then Err (fault.Odd d) else if not c then Err (fault.Range (field_value (is_jump_field r.field) d)) else Ok new) → FieldTakes r d offset (length bytes)
takes_by r d offset bytes new true b c p q s ok = cc
takes_by r d offset bytes new false true c p q s ok = cc
takes_by r d offset bytes new false false false p q s ok = cc
takes_by r d offset bytes new false false true p q s ok =
    let bounds = and_parts _ _ s in
    record { within = grind (arith, nat_tests); even = odd_not (is_jump_field r.field) (is_odd_integer d) q; low = at_most r.low _ bounds.0; high = at_most _ r.high bounds.1 }

ok_takes : (r : Row) (d : ℤ) (offset : ℕ) (bytes : List ℕ) → IsOk (relocated_by r d offset bytes) →
    FieldTakes r d offset (length bytes)
unfolding relocated_by field_written
ok_takes r d offset bytes ok = takes_by r d offset bytes (with_number bytes offset (field_size r.field) (number_of r d bytes offset)) _ _ _ refl refl refl ok

both : (a b : Bool) → a ≡ true → b ≡ true → (a && b) ≡ true
both a b p q = rw (p, q) refl

-- what a field that is taken becomes
pub takes_ok : (r : Row) (d : ℤ) (offset : ℕ) (bytes : List ℕ) → FieldTakes r d offset (length bytes) →
    relocated_by r d offset bytes ≡ Ok (with_number bytes offset (field_size r.field) (number_of r d bytes offset))
unfolding relocated_by field_written
takes_ok r d offset bytes t =
    let within = t.within in
    let p : nat_lt (length bytes) (offset + field_size r.field) ≡ false = grind (arith, nat_tests) in
    let q = none_odd (is_jump_field r.field) (is_odd_integer d) t.even in
    let s : is_in_bounds r (field_value (is_jump_field r.field) d) ≡ true = both _ _ (tested r.low _ t.low) (tested _ r.high t.high) in
    rw (p, q, s) refl

applies_at : (o : Option Row) (kind place : ℕ) (sum : ℤ) (offset : ℕ) (bytes : List ℕ) → row_of kind ≡ o →
    IsOk (relocated_at o kind place sum offset bytes) → Applies kind place sum offset (length bytes)
applies_at None kind place sum offset bytes e ok = cc
applies_at (Some r) kind place sum offset bytes e ok = a_field r e (ok_takes r (difference_of r.relative place sum) offset bytes ok)

applies_by : (b : Bool) (kind place : ℕ) (sum : ℤ) (offset : ℕ) (bytes : List ℕ) → (kind == 0) ≡ b →
    IsOk (if b then Ok bytes else relocated_at (row_of kind) kind place sum offset bytes) →
    Applies kind place sum offset (length bytes)
applies_by true kind place sum offset bytes e ok = no_field (grind (arith, nat_tests))
applies_by false kind place sum offset bytes e ok = applies_at (row_of kind) kind place sum offset bytes refl ok

pub ok_applies : (kind place : ℕ) (sum : ℤ) (offset : ℕ) (bytes : List ℕ) →
    IsOk (relocated kind place sum offset bytes) → Applies kind place sum offset (length bytes)
unfolding relocated
ok_applies kind place sum offset bytes ok = applies_by (kind == 0) kind place sum offset bytes refl ok

-- kind 0 has no field
pub none_at_0 : row_of 0 ≡ None
unfolding row_of
none_at_0 = refl

not_0 : (kind : ℕ) (r : Row) → row_of kind ≡ Some r → (kind == 0) ≡ false
not_0 kind r e = by (kind == 0) refl
  where
    by : (b : Bool) → (kind == 0) ≡ b → b ≡ false
    by false q = refl
    by true q = let z : kind ≡ 0 = grind (arith, nat_tests) in let n : None ≡ Some r = sym none_at_0 ∙ (ap row_of (sym z) ∙ e) in cc

-- a relocation that applies gives the bytes with its field
pub applies_gives : (kind place : ℕ) (sum : ℤ) (offset : ℕ) (bytes : List ℕ) →
    Applies kind place sum offset (length bytes) → relocated kind place sum offset bytes ≡ Ok (with_field kind place sum offset bytes)
unfolding relocated with_field
applies_gives kind place sum offset bytes (no_field e) =
    let t : (kind == 0) ≡ true = ap (λ (k : ℕ). k == 0) e in
    let n : row_of kind ≡ None = ap row_of e ∙ none_at_0 in
    rw (t, n) refl
applies_gives kind place sum offset bytes (a_field r e t) = rw (not_0 kind r e, e) (takes_ok r (difference_of r.relative place sum) offset bytes t)

pub applies_ok : (kind place : ℕ) (sum : ℤ) (offset : ℕ) (bytes : List ℕ) →
    Applies kind place sum offset (length bytes) → IsOk (relocated kind place sum offset bytes)
applies_ok kind place sum offset bytes h = subst (λ (r : Result (List ℕ) RelocFault). IsOk r) (sym (applies_gives kind place sum offset bytes h)) refl

pub taken_exactly : (kind place : ℕ) (sum : ℤ) (offset : ℕ) (bytes : List ℕ) →
    Applies kind place sum offset (length bytes) ↔ IsOk (relocated kind place sum offset bytes)
taken_exactly kind place sum offset bytes = (applies_ok kind place sum offset bytes, ok_applies kind place sum offset bytes)
