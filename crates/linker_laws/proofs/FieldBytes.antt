-- Fields put into a memory: the number of one that no later one overlaps, and the bytes outside all.
use Rattle.std.proofs.Common.{◌≡◌, ◌⊎◌, inl, inr, ℕ, zero, suc, ◌+◌, ◌%◌, ◌<◌, ◌≤◌, ℤ, List, [], ◌∷◌, drop, length, get_or, Option, Some, None, refl, ap, sym, ◌∙◌, subst, arith, fold}
use Rattle.std.specs.Prelude.{All, slice_get, slice_index}
use Rattle.std.specs.Option.{option_map_or}
use Rattle.std.proofs.lemmas.List.{get_or-drop}
use Rattle.byteorder.specs.Endian.{little_number, little_from}
use Rattle.elf_objects.specs.declared.object.SectionHead.{SectionHead}
use Rattle.elf_objects.specs.declared.object.Relocation.{Relocation}
use Rattle.reloc_apply.specs.Fields.{row_of, row_size, with_field, ChangesOnly}
use Rattle.reloc_apply.specs.Applies.{Applies, limit_by, row_number, Sets}
use Rattle.reloc_apply.proofs.SetsLemmas.{applies_sets, width_within}
use Rattle.link_symbols.specs.Passes.{NumberedObject}
use Rattle.linker.specs.Bytes.{bytes_put, memory_part}
use Rattle.linker.specs.Fields.{put_field_to, put_field, put_fields, field_place, target_address, file_size, symbol_sum}
use Rattle.linker.specs.Numbers.{Linking, numbers_in}
use Rattle.linker_laws.proofs.Writes.{Out, out_less, out_or, put_long, put_out, put_in, read_at, size_at}
use Rattle.linker_laws.proofs.SectionBytes.{Long}

-- numbers of bytes that are the same are the same
same_from : (i n : ℕ) (xs ys : List ℕ) → ((k : ℕ) → k < n → slice_index xs (i + k) ≡ slice_index ys (i + k)) →
    little_from i n xs ≡ little_from i n ys
same_from i zero xs ys h = refl
same_from i (suc n) xs ys h =
    let z : i + 0 ≡ i = omega arith in
    let a : slice_index xs i ≡ slice_index ys i = ap (slice_index xs) (sym z) ∙ (h 0 (omega arith) ∙ ap (slice_index ys) z) in
    let b = same_from (suc i) n xs ys (λ k l. let s : suc i + k ≡ i + suc k = omega arith in ap (slice_index xs) s ∙ (h (suc k) (omega arith) ∙ ap (slice_index ys) (sym s))) in
    omega (arith, a, b)

pub same_number : (n : ℕ) (xs ys : List ℕ) → ((k : ℕ) → k < n → slice_index xs k ≡ slice_index ys k) →
    little_number n xs ≡ little_number n ys
same_number n xs ys h = same_from 0 n xs ys (λ k l. let z : 0 + k ≡ k = omega arith in ap (slice_index xs) z ∙ (h k l ∙ ap (slice_index ys) (sym z)))

-- ---- one field

module _ (l : Linking) (low : (k : ℕ) → l.address k ≤ 65536) where
  abbrev pub at : NumberedObject → Relocation → ℕ
  at x r = target_address l.address x r

  abbrev pub place : NumberedObject → Relocation → ℕ
  place x r = field_place l.address x r

  abbrev pub sum : NumberedObject → Relocation → ℤ
  sum x r = symbol_sum (numbers_in l x) r

  abbrev pub width : Relocation → ℕ
  width r = row_size (row_of r.kind)

  -- a relocation's section lies in the memory, and the relocation applies to it
  pub record IsGood (x : NumberedObject) (r : Relocation) : Type 0 where
    pub section : SectionHead
    pub found : slice_get x.object.sections r.target ≡ Some section
    pub fits : at x r + file_size section ≤ 65536
    pub applies : Applies r.kind (place x r) (sum x r) r.offset (file_size section)

  abbrev old : NumberedObject → Relocation → SectionHead → List ℕ → List ℕ
  old x r s m = memory_part m (at x r) (file_size s)

  abbrev made : NumberedObject → Relocation → SectionHead → List ℕ → List ℕ
  made x r s m = with_field r.kind (place x r) (sum x r) r.offset (old x r s m)

  abbrev pub with_one : NumberedObject → List ℕ → Relocation → List ℕ
  with_one x m r = put_field l.address (numbers_in l x) x m r

  field_long : (x : NumberedObject) (m : List ℕ) (r : Relocation) → Long m → Long (with_one x m r)
  unfolding put_field
  field_long x m r h = by (slice_get x.object.sections r.target)
    where
      by : (found : Option SectionHead) → Long (option_map_or (put_field_to l.address (numbers_in l x) x m r) found m)
      by None = h
      by (Some s) =
          let w = low (x.first + r.target) in
          let p = put_long m (at x r) (made x r s m) (omega arith) in
          let q : Long (bytes_put m (at x r) (made x r s m)) = omega (arith, p) in q

  old_size : (x : NumberedObject) (m : List ℕ) (r : Relocation) → Long m → (good : IsGood x r) →
      length (old x r good.section m) ≡ file_size good.section
  old_size x m r h good = let f = good.fits in size_at m (at x r) (file_size good.section) (omega (arith, f))

  put_is : (x : NumberedObject) (m : List ℕ) (r : Relocation) (good : IsGood x r) →
      with_one x m r ≡ bytes_put m (at x r) (made x r good.section m)
  unfolding put_field
  put_is x m r good = ap (λ (o : Option SectionHead). option_map_or (put_field_to l.address (numbers_in l x) x m r) o m) good.found

  -- what a field makes of the section's bytes
  sets : (x : NumberedObject) (m : List ℕ) (r : Relocation) → Long m → (good : IsGood x r) →
      Sets (row_of r.kind) (place x r) (sum x r) r.offset (old x r good.section m) (made x r good.section m)
  sets x m r h good = applies_sets r.kind (place x r) (sum x r) r.offset (old x r good.section m) (subst (Applies r.kind (place x r) (sum x r) r.offset) (sym (old_size x m r h good)) good.applies)

  -- bytes in place of a section's that are the same at an address
  same_there : (m : List ℕ) (start size a : ℕ) (new : List ℕ) → Long m → start + size ≤ 65536 → length new ≡ size →
      ((n : ℕ) → n < size → a ≡ start + n → slice_index new n ≡ slice_index (memory_part m start size) n) →
      slice_index (bytes_put m start new) a ≡ slice_index m a
  same_there m start size a new h fit long same = by (out_or start size a)
    where
      by : Out start size a ⊎ ((n : ℕ) × ((n < size) × (a ≡ start + n))) →
          slice_index (bytes_put m start new) a ≡ slice_index m a
      by (inl out) = put_out m start new a (omega arith) (out_less start size (length new) a (omega (arith, long)) out)
      by (inr i) =
          let n = i.0 in let e = i.1.1 in
          ap (slice_index (bytes_put m start new)) e
          ∙ (put_in m start new n (omega arith) (let g = i.1.0 in omega (arith, g, long))
          ∙ (same n i.1.0 e ∙ (read_at m start size n i.1.0 ∙ ap (slice_index m) (sym e))))

  -- outside these of the section
  kept_at : (bytes new : List ℕ) (start offset size n a : ℕ) → ChangesOnly bytes new offset size →
      Out (start + offset) size a → a ≡ start + n → slice_index new n ≡ slice_index bytes n
  kept_at bytes new start offset size n a c (inl h) e = c.before n (omega (arith, e, h))
  kept_at bytes new start offset size n a c (inr h) e = c.after n (omega (arith, e, h))

  -- an address is outside a field
  abbrev pub Clear : NumberedObject → Relocation → ℕ → Type 0
  Clear x r a = Out (at x r + r.offset) (width r) a

  field_keep : (x : NumberedObject) (m : List ℕ) (r : Relocation) (a : ℕ) → Long m → IsGood x r → Clear x r a →
      slice_index (with_one x m r) a ≡ slice_index m a
  field_keep x m r a h good out =
      let k = sets x m r h good in
      let new = made x r good.section m in
      ap (λ (q : List ℕ). slice_index q a) (put_is x m r good)
      ∙ same_there m (at x r) (file_size good.section) a new h good.fits (k.as_many ∙ old_size x m r h good) (λ n g q. kept_at (old x r good.section m) new (at x r) r.offset (width r) n a k.elsewhere out q)

  -- the field holds its number
  abbrev pub IsSet : NumberedObject → Relocation → List ℕ → Type 0
  IsSet x r m = little_number (width r) (drop (at x r + r.offset) m) % limit_by (row_of r.kind) ≡ row_number (row_of r.kind) (place x r) (sum x r)

  within_by : (w offset size n : ℕ) → (w ≡ 0) ⊎ (offset + w ≤ size) → n < w → offset + n < size
  within_by w offset size n (inl z) h = absurd (omega (arith, z, h))
  within_by w offset size n (inr b) h = omega (arith, b, h)

  field_set : (x : NumberedObject) (m : List ℕ) (r : Relocation) → Long m → IsGood x r → IsSet x r (with_one x m r)
  field_set x m r h good =
      let k = sets x m r h good in
      let new = made x r good.section m in
      let size = k.as_many ∙ old_size x m r h good in
      let f = low (x.first + r.target) in
      let each : (n : ℕ) → n < width r → slice_index (drop (at x r + r.offset) (bytes_put m (at x r) new)) n ≡ slice_index (drop r.offset new) n = λ n g.
      let b = within_by (width r) r.offset (file_size good.section) n (width_within r.kind (place x r) (sum x r) r.offset (file_size good.section) good.applies) g in
      get_or-drop (at x r + r.offset) (bytes_put m (at x r) new) n 0
      ∙ (ap (slice_index (bytes_put m (at x r) new)) (let z : at x r + r.offset + n ≡ at x r + (r.offset + n) = omega arith in z)
      ∙ (put_in m (at x r) new (r.offset + n) (omega arith) (omega (arith, b, size)) ∙ sym (get_or-drop r.offset new n 0))) in
      ap (λ (q : List ℕ). little_number (width r) (drop (at x r + r.offset) q) % limit_by (row_of r.kind)) (put_is x m r good)
      ∙ (ap (λ (n : ℕ). n % limit_by (row_of r.kind)) (same_number (width r) (drop (at x r + r.offset) (bytes_put m (at x r) new)) (drop r.offset new) each)
      ∙ k.number)

  -- a memory that is the same at the field
  pub still_set : (x : NumberedObject) (r : Relocation) (m new : List ℕ) →
      ((n : ℕ) → n < width r → slice_index new (at x r + r.offset + n) ≡ slice_index m (at x r + r.offset + n)) →
      IsSet x r m → IsSet x r new
  still_set x r m new same s =
      ap (λ (n : ℕ). n % limit_by (row_of r.kind)) (same_number (width r) (drop (at x r + r.offset) new) (drop (at x r + r.offset) m)
      (λ n g. get_or-drop (at x r + r.offset) new n 0 ∙ (same n g ∙ sym (get_or-drop (at x r + r.offset) m n 0)))) ∙ s

  -- ---- an object's fields

  fields_long : (x : NumberedObject) (m : List ℕ) (rs : List Relocation) → Long m →
      Long (fold (put_field l.address (numbers_in l x) x) m rs)
  fields_long x m [] h = h
  fields_long x m (r ∷ rs) h = fields_long x (with_one x m r) rs (field_long x m r h)

  fields_keep : (x : NumberedObject) (m : List ℕ) (rs : List Relocation) (a : ℕ) → Long m → All (IsGood x) rs →
      All (λ r. Clear x r a) rs → slice_index (fold (put_field l.address (numbers_in l x) x) m rs) a ≡ slice_index m a
  fields_keep x m [] a h good out = refl
  fields_keep x m (r ∷ rs) a h good out =
      fields_keep x (with_one x m r) rs a (field_long x m r h) (λ k d b. good (suc k) d (omega arith)) (λ k d b. out (suc k) d (omega arith))
      ∙ field_keep x m r a h (good 0 r (omega arith)) (out 0 r (omega arith))

  fields_set : (x : NumberedObject) (m : List ℕ) (rs : List Relocation) (j : ℕ) (r : Relocation) → Long m →
      All (IsGood x) rs → j < length rs → ((d : Relocation) → get_or rs j d ≡ r) →
      ((n : ℕ) → n < width r → (i : ℕ) (d : Relocation) → j < i → i < length rs → Clear x (get_or rs i d) (at x r + r.offset + n)) →
      IsSet x r (fold (put_field l.address (numbers_in l x) x) m rs)
  fields_set x m [] j r h good b is out = absurd (omega arith)
  fields_set x m (q ∷ rs) zero r h good b is out =
      still_set x r (with_one x m q) (fold (put_field l.address (numbers_in l x) x) (with_one x m q) rs)
      (λ n g. fields_keep x (with_one x m q) rs (at x r + r.offset + n) (field_long x m q h) (λ k d c. good (suc k) d (omega arith)) (λ k d c. out n g (suc k) d (omega arith) (omega arith)))
      (subst (λ (t : Relocation). IsSet x r (with_one x m t)) (sym (is r)) (field_set x m r h (subst (IsGood x) (is r) (good 0 q (omega arith)))))
  fields_set x m (q ∷ rs) (suc j) r h good b is out =
      fields_set x (with_one x m q) rs j r (field_long x m q h) (λ k d c. good (suc k) d (omega arith)) (omega arith) is (λ n g i d c f. out n g (suc i) d (omega arith) (omega arith))

  -- ---- all objects' fields

  pub objects_long : (xs : List NumberedObject) (m : List ℕ) → Long m → Long (fold (put_fields l) m xs)
  objects_long [] m h = h
  objects_long (x ∷ xs) m h = objects_long xs (put_fields l m x) (fields_long x m x.object.relocations h)

  -- all relocations of an object are good, and an address is outside their fields
  abbrev pub AreGood : NumberedObject → Type 0
  AreGood x = All (IsGood x) x.object.relocations

  abbrev pub ClearOf : NumberedObject → ℕ → Type 0
  ClearOf x a = All (λ r. Clear x r a) x.object.relocations

  pub objects_keep : (xs : List NumberedObject) (m : List ℕ) (a : ℕ) → Long m → All AreGood xs →
      ((n : ℕ) (d : NumberedObject) → n < length xs → ClearOf (get_or xs n d) a) →
      slice_index (fold (put_fields l) m xs) a ≡ slice_index m a
  objects_keep [] m a h good out = refl
  objects_keep (x ∷ xs) m a h good out =
      objects_keep xs (put_fields l m x) a (fields_long x m x.object.relocations h) (λ n d b. good (suc n) d (omega arith)) (λ n d b. out (suc n) d (omega arith))
      ∙ fields_keep x m x.object.relocations a h (good 0 x (omega arith)) (out 0 x (omega arith))

  pub objects_set : (xs : List NumberedObject) (m : List ℕ) (i j : ℕ) (x : NumberedObject) (r : Relocation) → Long m →
      All AreGood xs → i < length xs → ((d : NumberedObject) → get_or xs i d ≡ x) →
      j < length x.object.relocations → ((d : Relocation) → get_or x.object.relocations j d ≡ r) →
      ((n : ℕ) → n < width r → (k : ℕ) (d : Relocation) → j < k → k < length x.object.relocations → Clear x (get_or x.object.relocations k d) (at x r + r.offset + n)) →
      ((n : ℕ) → n < width r → (k : ℕ) (d : NumberedObject) → i < k → k < length xs → ClearOf (get_or xs k d) (at x r + r.offset + n)) →
      IsSet x r (fold (put_fields l) m xs)
  objects_set [] m i j x r h good b is c it own out = absurd (omega arith)
  objects_set (y ∷ ys) m zero j x r h good b is c it own out =
      still_set x r (put_fields l m y) (fold (put_fields l) (put_fields l m y) ys)
      (λ n g. objects_keep ys (put_fields l m y) (at x r + r.offset + n) (fields_long y m y.object.relocations h) (λ k d f. good (suc k) d (omega arith)) (λ k d f. out n g (suc k) d (omega arith) (omega arith)))
      (subst (λ (t : NumberedObject). IsSet x r (put_fields l m t)) (sym (is x)) (fields_set x m x.object.relocations j r h (subst AreGood (is x) (good 0 y (omega arith))) c it own))
  objects_set (y ∷ ys) m (suc i) j x r h good b is c it own out =
      objects_set ys (put_fields l m y) i j x r (fields_long y m y.object.relocations h) (λ k d f. good (suc k) d (omega arith)) (omega arith) is c it own (λ n g k d f q. out n g (suc k) d (omega arith) (omega arith))
