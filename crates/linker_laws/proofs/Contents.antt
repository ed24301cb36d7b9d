-- What each byte of a linked image is.
use Rattle.std.proofs.Common.{ℤ, ◌≡◌, ◌≢◌, ◌⊎◌, inl, inr, ℕ, ◌+◌, ◌-◌, ◌*◌, ◌<◌, ◌≤◌, List, map, drop, length, get_or, replicate, Option, Some, None, Bool, true, false, refl, ap, sym, ◌∙◌, subst, arith, fold, length-take, length-drop}
use Rattle.std.specs.Prelude.{All, slice_get, slice_index, if◌then◌else◌}
use Rattle.std.proofs.lemmas.Bool.{cases_lt}
use Rattle.std.proofs.lemmas.List.{get_or-take, get_or-drop, length-replicate, get_or-map, get_or-append-add, ext_get_or}
use Rattle.mod_layout.specs.declared.Section.{Section}
use Rattle.mod_layout.specs.Table.{holds}
use Rattle.elf_objects.specs.Object.{ObjectValue, IsObject}
use Rattle.elf_objects.specs.declared.object.SectionHead.{SectionHead}
use Rattle.elf_objects.specs.declared.object.Relocation.{Relocation}
use Rattle.elf_objects.proofs.LawLemmas.{all_sections, all_relocations, all_loaded}
use Rattle.entry_stubs.specs.Stub.{stub_words, stub_front}
use Rattle.layout_file.specs.Overlaps.{ShareNoByte}
use Rattle.layout_file.specs.Sound.{IsLayout}
use Rattle.layout_file.specs.Values.{VectorValue, ModuleValue, LayoutValue}
use Rattle.reloc_apply.specs.Fields.{row_of, row_size}
use Rattle.reloc_apply.specs.Applies.{Applies, no_field, a_field}
use Rattle.reloc_apply.proofs.SetsLemmas.{width_within}
use Rattle.reloc_apply.proofs.AppliesLemmas.{none_at_0}
use Rattle.link_symbols.specs.declared.item.Item.{Item}
use Rattle.link_symbols.specs.declared.item.Part.{Part}
use Rattle.link_symbols.specs.Passes.{NumberedObject, numbered_objects, part, fold_at}
use Rattle.link_symbols.specs.Parts.{is_loaded_head, item_of, part_of}
use Rattle.link_symbols.specs.Resolved.{items_of}
use Rattle.linker.specs.Placement.{starts_of, address_at, module_stub_size, text_of}
use Rattle.linker.specs.Numbers.{Linking, linking_of, region_end}
use Rattle.linker.specs.Bytes.{memory_part, word_bytes}
use Rattle.linker.specs.Sections.{put_sections}
use Rattle.linker.specs.Fields.{put_fields, target_address}
use Rattle.linker.specs.Stubs.{word_named, stub_of, put_stub, put_vector}
use Rattle.linker.specs.Image.{blank_memory}
use Rattle.linker.specs.Refusals.{link_fault_of}
use Rattle.linker.proofs.ClearLemmas.{zero_at, stub_size_is}
use Rattle.linker.proofs.FitLemmas.{item_size, some_head}
use Rattle.linker.proofs.LinkedLemmas.{none_over}
use Rattle.linker.proofs.PlaceLemmas.{Goes}
use Rattle.linker.proofs.RegionLemmas.{items_are_in, ends_kept}
use Rattle.linker_laws.specs.Places.{Piece, an_item, a_stub, a_stack, the_vectors, span, stub_lies, vectors_lie}
use Rattle.linker_laws.specs.Contents.{IsLoaded, field_span, IsGiven, by_section, by_stub, by_vector}
use Rattle.linker_laws.proofs.Conditions.{can_link}
use Rattle.linker_laws.proofs.FieldBytes as fields
use Rattle.linker_laws.proofs.Numbered.{later, one_of, section_item}
use Rattle.linker_laws.proofs.Places.{goes_at, lies_at, lie_apart, lies_inside}
use Rattle.linker.proofs.TurnLemmas.{all_low, item_high}
use Rattle.linker_laws.proofs.Searches.{got, gets}
use Rattle.linker_laws.proofs.SectionBytes as sections
use Rattle.linker_laws.proofs.SectionBytes.{Long}
use Rattle.linker_laws.proofs.WordBytes as words
use Rattle.linker_laws.proofs.Writes.{Out, out_less, out_within, outside, among, apart_out, read_at, size_at}

some_part : (b : Bool) (o p : Option Part) → b ≡ true → o ≢ None → p ≡ (if b then o else None) →
    (q : Part) × (p ≡ Some q)
some_part true None p e h f = absurd (h refl)
some_part true (Some q) p e h f = (q, f)
some_part false o p e h f = cc

part_of_item : (ms : List ModuleValue) (o : ObjectValue) (s : SectionHead) →
    (item_of ms o s).part ≡ (if is_loaded_head s then part_of ms (part o s.name) s else None)
unfolding item_of
part_of_item ms o s = refl

long_zeros : (n : ℕ) → n ≡ 65536 → Long (replicate n 0)
long_zeros n e = let h = length-replicate {A = ℕ} n 0 in omega (arith, h, e)

zeros_long : Long blank_memory
unfolding blank_memory
zeros_long = long_zeros 65536 refl

zero_there : (a : ℕ) → slice_index blank_memory a ≡ 0
unfolding blank_memory
zero_there a = zero_at 65536 a

by_bool : (b : Bool) → (b ≡ true → ⊥) → b ≡ false
by_bool true h = absurd (h refl)
by_bool false h = refl

module _ (layout : LayoutValue) (objects : List ObjectValue) (kept : IsLayout layout) (are : All IsObject objects) (e : link_fault_of layout objects ≡ None) where
  abbrev l : Linking
  l = linking_of layout objects

  abbrev end : ℕ → ℕ
  end = region_end layout objects

  abbrev xs : List NumberedObject
  xs = numbered_objects objects

  abbrev items : List Item
  items = items_of layout objects

  abbrev address : ℕ → ℕ
  address = address_at (starts_of layout) items

  abbrev count : ℕ
  count = 2 + 2 * length layout.modules

  over : (r : ℕ) → r < count → end r ≤ 65504
  over = ends_kept layout objects kept (none_over layout objects e)

  pub low : (k : ℕ) → address k ≤ 65536
  low k = let h = all_low (starts_of layout) items count (items_are_in layout objects) over k in omega (arith, h)

  -- ---- items

  abbrev item_span : ℕ → Item → Section
  item_span k i = span (address k) i.size

  item_below : (k : ℕ) (i : Item) (p : Part) → Goes items k i p → address k + i.size ≤ 65504
  item_below k i p g =
      let r = goes_at layout objects k i p g in
      let h = item_high (starts_of layout) items k i p g r.1 in
      let b = over p.region r.0 in
      omega (arith, h, b)

  -- an address in one item is outside every other
  item_away : (k j : ℕ) (x y : Item) (p q : Part) (a : ℕ) → Goes items k x p → Goes items j y q → k ≢ j →
      holds (item_span k x) a ≡ true → Out (address j) y.size a
  item_away k j x y p q a f g ne h =
      let u = lies_at layout objects k x p f in let v = lies_at layout objects j y q g in
      apart_out (item_span k x) (address j) y.size a (lie_apart layout objects kept e (an_item k x) (an_item j y) _ _ _ _ u.1 v.1 (λ z. ne (ap index z))) h
    where
      index : Piece → ℕ
      index (an_item k i) = k
      index (a_stub k) = 0
      index (a_stack k) = 0
      index the_vectors = 0

  -- ---- loaded sections

  abbrev size : SectionHead → ℕ
  size s = s.bytes.end - s.bytes.start

  abbrev own_item : NumberedObject → SectionHead → Item
  own_item x s = item_of layout.modules x.object s

  -- the item of a loaded section, which has room for its bytes
  record Spot (x : NumberedObject) (k : ℕ) (s : SectionHead) : Type 0 where
    region : Part
    goes : Goes items (x.first + k) (own_item x s) region
    room : size s ≤ (own_item x s).size
    ordered : s.bytes.start ≤ s.bytes.end
    inside_file : s.bytes.end ≤ length x.object.file

  spot_of : (x : NumberedObject) (k : ℕ) (s : SectionHead) → IsLoaded objects x k s → Spot x k s
  spot_of x k s h =
      let g = got x.object.sections k s h.section in
      let o = got xs h.number x h.object in
      let item = section_item layout objects h.number k x s h.object g.0 ∙ ap (λ (t : SectionHead). Some (own_item x t)) (g.1 s) in
      let placed = subst (λ (t : SectionHead). is_loaded_head t ≡ true → part_of layout.modules (part x.object t.name) t ≢ None) (g.1 s)
      (subst (λ (y : NumberedObject). (j : ℕ) (d : SectionHead) → j < length y.object.sections → is_loaded_head (get_or y.object.sections j d) ≡ true → part_of layout.modules (part y.object (get_or y.object.sections j d).name) (get_or y.object.sections j d) ≢ None) (o.1 x)
      ((can_link layout objects e).sections_placed h.number x o.0) k s g.0) in
      let some = some_part (is_loaded_head s) (part_of layout.modules (part x.object s.name) s) (own_item x s).part h.loaded (placed h.loaded) (part_of_item layout.modules x.object s) in
      let is = one_of IsObject objects h.number x are h.object in
      let sec = all_sections x.object is k s g.0 in
      let sized = item_size layout.modules x.object s in
      let same = g.1 s in
      let b = sec.sized in let c = sec.bytes.ordered in let d = sec.bytes.within in
      let b1 = ap (λ (t : SectionHead). t.bytes.end) same in
      let b2 = ap (λ (t : SectionHead). t.bytes.start) same in
      let b3 = ap (λ (t : SectionHead). t.size) same in
      record { region = some.0; goes = (item, some.1); room = omega (arith, b, b1, b2, b3, sized); ordered = omega (arith, c, b1, b2); inside_file = omega (arith, d, b1) }

  loaded_at : (n k : ℕ) (d : NumberedObject) (f : SectionHead) → n < length xs →
      k < length (get_or xs n d).object.sections →
      is_loaded_head (get_or (get_or xs n d).object.sections k f) ≡ true →
      IsLoaded objects (get_or xs n d) k (get_or (get_or xs n d).object.sections k f)
  loaded_at n k d f h b t = record { number = n; object = gets xs n d h; section = gets (get_or xs n d).object.sections k f b; loaded = t }

  -- an address among a loaded section's bytes is in its item
  among_item : (x : NumberedObject) (k : ℕ) (s : SectionHead) (n : ℕ) → IsLoaded objects x k s → n < size s →
      holds (item_span (x.first + k) (own_item x s)) (address (x.first + k) + n) ≡ true
  among_item x k s n h b = let r = (spot_of x k s h).room in among (address (x.first + k)) (own_item x s).size n (omega (arith, r, b))

  -- and outside every other loaded section
  section_away : (x y : NumberedObject) (k j : ℕ) (s t : SectionHead) (a : ℕ) → IsLoaded objects x k s →
      IsLoaded objects y j t → x.first + k ≢ y.first + j → holds (item_span (x.first + k) (own_item x s)) a ≡ true →
      Out (address (y.first + j)) (size t) a
  section_away x y k j s t a h g ne b =
      let p = spot_of x k s h in let q = spot_of y j t g in
      out_less (address (y.first + j)) (own_item y t).size (size t) a q.room (item_away (x.first + k) (y.first + j) (own_item x s) (own_item y t) p.region q.region a p.goes q.goes ne b)

  -- ---- relocations

  target_loaded : (n j : ℕ) (x : NumberedObject) (d : Relocation) → slice_get xs n ≡ Some x →
      j < length x.object.relocations →
      (s : SectionHead) × IsLoaded objects x (get_or x.object.relocations j d).target s
  target_loaded n j x d f b =
      let r = get_or x.object.relocations j d in
      let is = one_of IsObject objects n x are f in
      let t = (all_relocations x.object is j d b).target in
      let h = some_head x.object.sections r.target t in (
        get_or x.object.sections r.target h,
        record { number = n; object = f; section = gets x.object.sections r.target h t; loaded = all_loaded x.object is j d b h t },
      )

  good : All (fields.AreGood l low) xs
  good n d h j r b =
      let x = get_or xs n d in
      let t = target_loaded n j x r (gets xs n d h) b in
      let s = spot_of x (get_or x.object.relocations j r).target t.0 t.1 in
      let room = s.room in
      let below = item_below (x.first + (get_or x.object.relocations j r).target) (own_item x t.0) s.region s.goes in
      let found = t.1.section in
      record { section = t.0; found = found; fits = omega (arith, room, below); applies = (can_link layout objects e).relocations_apply n d h j r b t.0 found }

  -- outside a section is outside its fields
  clear_by : (x : NumberedObject) (r : Relocation) (a place : ℕ) (sum : ℤ) (room : ℕ) →
      Applies r.kind place sum r.offset room → Out (target_address address x r) room a →
      fields.Clear l low x r a
  clear_by x r a place sum room (no_field z) out = by (cases_lt a (target_address address x r + r.offset))
    where
      none : row_size (row_of r.kind) ≡ 0
      none = ap (λ (k : ℕ). row_size (row_of k)) z ∙ ap row_size none_at_0

      by : (a < target_address address x r + r.offset) ⊎ (target_address address x r + r.offset ≤ a) →
          fields.Clear l low x r a
      by (inl h) = inl h
      by (inr h) = inr (omega (arith, none))
  clear_by x r a place sum room (a_field row f t) out =
      let w = t.within in
      let z = ap row_size f in
      out_within (target_address address x r) room (target_address address x r + r.offset) (row_size (row_of r.kind)) a (omega arith) (omega (arith, w, z)) out

  clear_of : (n : ℕ) (d : NumberedObject) (a : ℕ) → n < length xs →
      ((j : ℕ) (s : SectionHead) → IsLoaded objects (get_or xs n d) j s → Out (address ((get_or xs n d).first + j)) (size s) a) →
      fields.ClearOf l low (get_or xs n d) a
  clear_of n d a h out j r b =
      let x = get_or xs n d in
      let t = target_loaded n j x r (gets xs n d h) b in
      let q = get_or x.object.relocations j r in
      let found = t.1.section in
      clear_by x q a _ _ (size t.0) ((can_link layout objects e).relocations_apply n d h j r b t.0 found) (out q.target t.0 t.1)

  -- ---- the layers of the memory

  abbrev with_sections : List ℕ
  with_sections = fold (put_sections address) blank_memory xs

  abbrev with_fields : List ℕ
  with_fields = fold (put_fields l) with_sections xs

  abbrev with_stubs : List ℕ
  with_stubs = fold_at (put_stub l end) with_fields 0 layout.modules

  abbrev whole : List ℕ
  whole = fold (put_vector l) with_stubs layout.vectors

  starts_low : All (λ m. m.text.start ≤ 65536) layout.modules
  starts_low i d h = let t = (kept.modules_kept i d h).text_region in let a = t.in_order in let b = t.below_vectors in omega (arith, a, b)

  sections_long : Long with_sections
  sections_long = sections.objects_long address low xs blank_memory zeros_long

  fields_long : Long with_fields
  fields_long = fields.objects_long l low xs with_sections sections_long

  stubs_long : Long with_stubs
  stubs_long = words.stubs_long l end with_fields 0 layout.modules starts_low fields_long

  whole_long : Long whole
  whole_long = words.vectors_long l with_stubs layout.vectors kept.vectors_kept.below_16 stubs_long

  -- outside the stubs and the vectors, fields are the last
  words_keep : (a : ℕ) → All (λ m. Out m.text.start (module_stub_size m) a) layout.modules →
      All (λ v. Out (words.start l v) 2 a) layout.vectors → slice_index whole a ≡ slice_index with_fields a
  words_keep a stubs vectors = words.vectors_keep l with_stubs layout.vectors a kept.vectors_kept.below_16 stubs_long vectors ∙ words.stubs_keep l end with_fields 0 layout.modules a starts_low fields_long stubs

  -- an address in an item is outside stubs and vectors
  item_stubs : (k : ℕ) (x : Item) (p : Part) (a : ℕ) → Goes items k x p → holds (item_span k x) a ≡ true →
      All (λ m. Out m.text.start (module_stub_size m) a) layout.modules
  item_stubs k x p a f h i d b =
      let m = get_or layout.modules i d in
      let u = lies_at layout objects k x p f in
      apart_out (item_span k x) m.text.start (module_stub_size m) a (lie_apart layout objects kept e (an_item k x) (a_stub i) _ _ _ _ u.1 (stub_lies i m (gets layout.modules i d b)) (λ z. let c : an_item k x ≡ a_stub i = z in cc)) h

  item_vectors : (k : ℕ) (x : Item) (p : Part) (a : ℕ) → Goes items k x p → holds (item_span k x) a ≡ true →
      All (λ v. Out (words.start l v) 2 a) layout.vectors
  item_vectors k x p a f h i d b =
      let v = get_or layout.vectors i d in
      let u = lies_at layout objects k x p f in
      let low_v = kept.vectors_kept.below_16 i d b in
      out_within 65504 32 (words.start l v) 2 a (omega arith) (omega (arith, low_v))
      (apart_out (item_span k x) 65504 32 a (lie_apart layout objects kept e (an_item k x) the_vectors _ _ _ _ u.1 vectors_lie (λ z. let c : an_item k x ≡ the_vectors = z in cc)) h)

  -- ---- sections

  file_byte : (o : ObjectValue) (s : SectionHead) (n : ℕ) → n < size s →
      slice_index (part o s.bytes) n ≡ slice_index o.file (s.bytes.start + n)
  file_byte o s n h = get_or-take (size s) (drop s.bytes.start o.file) n 0 h ∙ get_or-drop s.bytes.start o.file n 0

  part_length : (x : NumberedObject) (k : ℕ) (s : SectionHead) → IsLoaded objects x k s →
      length (part x.object s.bytes) ≡ size s
  part_length x k s h = let p = spot_of x k s h in let a = p.ordered in let b = p.inside_file in simp (length-take, length-drop) (omega (arith, a, b))

  -- two sections of different places are different items
  apart_numbers : (n i k j : ℕ) (x y : NumberedObject) → slice_get xs n ≡ Some x → slice_get xs i ≡ Some y →
      k < length x.object.sections → n < i → x.first + k ≢ y.first + j
  apart_numbers n i k j x y f g b h = λ z. let q = later objects n i x y f g h in absurd (omega (arith, q, z, b))

  section_put : (x : NumberedObject) (k : ℕ) (s : SectionHead) (n : ℕ) → IsLoaded objects x k s → n < size s →
      slice_index with_sections (address (x.first + k) + n) ≡ slice_index x.object.file (s.bytes.start + n)
  section_put x k s n h b =
      let a : ℕ = address (x.first + k) + n in
      let o = got xs h.number x h.object in
      let g = got x.object.sections k s h.section in
      let z = part_length x k s h in
      let held = among_item x k s n h b in
      sections.object_set address low xs blank_memory h.number k n x s zeros_long o.0 o.1 g.0 g.1 h.loaded (omega (arith, b, z))
      (λ j d c f t. section_away x x k j s (get_or x.object.sections j d) a h (record { number = h.number; object = h.object; section = gets x.object.sections j d f; loaded = t }) (λ q. absurd (omega (arith, q, c))) held)
      (λ i d c f j v w t. section_away x (get_or xs i d) k j s (get_or (get_or xs i d).object.sections j v) a h (loaded_at i j d v f w t) (apart_numbers h.number i k j x (get_or xs i d) h.object (gets xs i d f) g.0 c) held)
      ∙ file_byte x.object s n b

  pub section_bytes : (x : NumberedObject) (k : ℕ) (s : SectionHead) → IsLoaded objects x k s → (n : ℕ) →
      s.bytes.start + n < s.bytes.end →
      All (λ r. holds (field_span layout objects x r) (address (x.first + k) + n) ≡ false) x.object.relocations →
      slice_index whole (address (x.first + k) + n) ≡ slice_index x.object.file (s.bytes.start + n)
  section_bytes x k s h n b out =
      let a : ℕ = address (x.first + k) + n in
      let p = spot_of x k s h in
      let held = among_item x k s n h (omega arith) in
      words_keep a (item_stubs (x.first + k) (own_item x s) p.region a p.goes held) (item_vectors (x.first + k) (own_item x s) p.region a p.goes held)
      ∙ (fields.objects_keep l low xs with_sections a sections_long good (λ i d f. by i d f (cases_lt i h.number) (cases_lt h.number i))
      ∙ section_put x k s n h (omega arith))
    where
      own : (i : ℕ) (d : NumberedObject) → i < length xs → i ≡ h.number →
          fields.ClearOf l low (get_or xs i d) (address (x.first + k) + n)
      own i d f q =
          let same : get_or xs i d ≡ x = ap (λ (j : ℕ). get_or xs j d) q ∙ (got xs h.number x h.object).1 d in
          subst (λ (y : NumberedObject). fields.ClearOf l low y (address (x.first + k) + n)) (sym same)
          (λ j r c. outside (address (x.first + (get_or x.object.relocations j r).target) + (get_or x.object.relocations j r).offset) (row_size (row_of (get_or x.object.relocations j r).kind)) (address (x.first + k) + n) (out j r c))

      other : (i : ℕ) (d : NumberedObject) (f : i < length xs) →
          ((j : ℕ) (t : SectionHead) → IsLoaded objects (get_or xs i d) j t → x.first + k ≢ (get_or xs i d).first + j) →
          fields.ClearOf l low (get_or xs i d) (address (x.first + k) + n)
      other i d f ne = clear_of i d (address (x.first + k) + n) f (λ j t g. section_away x (get_or xs i d) k j s t (address (x.first + k) + n) h g (ne j t g) (among_item x k s n h (omega arith)))

      by : (i : ℕ) (d : NumberedObject) → i < length xs → (i < h.number) ⊎ (h.number ≤ i) →
          (h.number < i) ⊎ (i ≤ h.number) → fields.ClearOf l low (get_or xs i d) (address (x.first + k) + n)
      by i d f (inl c) q = other i d f (λ j t g z. apart_numbers i h.number j k (get_or xs i d) x (gets xs i d f) h.object (got (get_or xs i d).object.sections j t g.section).0 c (sym z))
      by i d f (inr c) (inl q) = other i d f (λ j t g. apart_numbers h.number i k j x (get_or xs i d) h.object (gets xs i d f) (got x.object.sections k s h.section).0 q)
      by i d f (inr c) (inr q) = own i d f (omega arith)

  -- ---- fields

  pub field_numbers : (n j : ℕ) (x : NumberedObject) (r : Relocation) → slice_get xs n ≡ Some x →
      slice_get x.object.relocations j ≡ Some r →
      ((i : ℕ) (q : Relocation) → j < i → slice_get x.object.relocations i ≡ Some q → ShareNoByte (field_span layout objects x r) (field_span layout objects x q)) →
      fields.IsSet l low x r whole
  field_numbers n j x r f g apart =
      fields.still_set l low x r with_fields whole (λ k b. words_keep (place k) (item_stubs item (own_item x s) region (place k) goes (held k b)) (item_vectors item (own_item x s) region (place k) goes (held k b)))
      (fields.objects_set l low xs with_sections n j x r sections_long good o.0 o.1 c.0 c.1
      (λ k b i d h w. apart_out (field_span layout objects x r) (address (x.first + (get_or x.object.relocations i d).target) + (get_or x.object.relocations i d).offset) (row_size (row_of (get_or x.object.relocations i d).kind)) (place k)
      (apart i (get_or x.object.relocations i d) h (gets x.object.relocations i d w)) (among (address (x.first + r.target) + r.offset) (row_size (row_of r.kind)) k b))
      (λ k b i d h w. clear_of i d (place k) w (λ m t v. section_away x (get_or xs i d) r.target m s t (place k) loaded v (apart_numbers n i r.target m x (get_or xs i d) f (gets xs i d w) section.0 h) (held k b))))
    where
      o : (n < length xs) × ((d : NumberedObject) → get_or xs n d ≡ x)
      o = got xs n x f

      c : (j < length x.object.relocations) × ((d : Relocation) → get_or x.object.relocations j d ≡ r)
      c = got x.object.relocations j r g

      target : (s : SectionHead) × IsLoaded objects x r.target s
      target = subst (λ (q : Relocation). (s : SectionHead) × IsLoaded objects x q.target s) (c.1 r) (target_loaded n j x r f c.0)

      s : SectionHead
      s = target.0

      loaded : IsLoaded objects x r.target s
      loaded = target.1

      section : (r.target < length x.object.sections) × ((d : SectionHead) → get_or x.object.sections r.target d ≡ s)
      section = got x.object.sections r.target s loaded.section

      item : ℕ
      item = x.first + r.target

      region : Part
      region = (spot_of x r.target s loaded).region

      goes : Goes items item (own_item x s) region
      goes = (spot_of x r.target s loaded).goes

      place : ℕ → ℕ
      place k = address (x.first + r.target) + r.offset + k

      applies : fields.IsGood l low x r
      applies = subst (fields.IsGood l low x) (c.1 r) (subst (fields.AreGood l low) (o.1 x) (good n x o.0) j r c.0)

      within : (w offset room k : ℕ) → (w ≡ 0) ⊎ (offset + w ≤ room) → k < w → offset + k < room
      within w offset room k (inl z) h = absurd (omega (arith, z, h))
      within w offset room k (inr b) h = omega (arith, b, h)

      held : (k : ℕ) → k < row_size (row_of r.kind) → holds (item_span item (own_item x s)) (place k) ≡ true
      held k b =
          let w = within (row_size (row_of r.kind)) r.offset (size applies.section) k (width_within r.kind (fields.place l low x r) (fields.sum l low x r) r.offset (size applies.section) applies.applies) b in
          let q : size applies.section ≡ size s = ap size (sym ((got x.object.sections r.target applies.section applies.found).1 s) ∙ section.1 s) in
          let z : address (x.first + r.target) + r.offset + k ≡ address (x.first + r.target) + (r.offset + k) = omega arith in
          ap (holds (item_span item (own_item x s))) z ∙ among_item x r.target s (r.offset + k) loaded (omega (arith, w, q))

  -- ---- stubs

  stub_byte : (i n : ℕ) (m : ModuleValue) → slice_get layout.modules i ≡ Some m → n < module_stub_size m →
      slice_index whole (m.text.start + n) ≡ slice_index (words.bytes_of l end i m) n
  stub_byte i n m f b =
      words.vectors_keep l with_stubs layout.vectors (m.text.start + n) kept.vectors_kept.below_16 stubs_long (λ k v h.
      let low_v = kept.vectors_kept.below_16 k v h in
      out_within 65504 32 (words.start l (get_or layout.vectors k v)) 2 (m.text.start + n) (omega arith) (omega (arith, low_v))
      (apart_out (span m.text.start (module_stub_size m)) 65504 32 (m.text.start + n) (lie_apart layout objects kept e (a_stub i) the_vectors _ _ _ _ (stub_lies i m f) vectors_lie (λ z. let c : a_stub i ≡ the_vectors = z in cc)) held))
      ∙ (words.stubs_set l end with_fields 0 layout.modules i n m starts_low fields_long g.0 g.1 b (λ j d h w.
      let o = get_or layout.modules j d in
      apart_out (span m.text.start (module_stub_size m)) o.text.start (module_stub_size o) (m.text.start + n)
      (lie_apart layout objects kept e (a_stub i) (a_stub j) _ _ _ _ (stub_lies i m f) (stub_lies j o (gets layout.modules j d w)) (λ z. let q = ap index z in absurd (omega (arith, q, h)))) held)
      ∙ ap (λ (k : ℕ). slice_index (words.bytes_of l end k m) n) (let z : 0 + i ≡ i = omega arith in z))
    where
      g : (i < length layout.modules) × ((d : ModuleValue) → get_or layout.modules i d ≡ m)
      g = got layout.modules i m f

      held : holds (span m.text.start (module_stub_size m)) (m.text.start + n) ≡ true
      held = among m.text.start (module_stub_size m) n b

      index : Piece → ℕ
      index (an_item k i) = 0
      index (a_stub k) = k
      index (a_stack k) = 0
      index the_vectors = 0

  stub_high : (i : ℕ) (m : ModuleValue) → slice_get layout.modules i ≡ Some m → m.text.start + module_stub_size m ≤ 65504
  stub_high i m f =
      let a = (lies_inside layout objects kept e (a_stub i) _ _ (stub_lies i m f)).end in
      let g = got layout.modules i m f in
      let b = (kept.modules_kept i m g.0).text_region.below_vectors in
      let q = ap (λ (x : ModuleValue). x.text.end) (g.1 m) in
      omega (arith, a, b, q)

  bytes_same : (start count : ℕ) (bytes : List ℕ) → start + count ≤ 65536 → length bytes ≡ count →
      ((n : ℕ) → n < count → slice_index whole (start + n) ≡ slice_index bytes n) → memory_part whole start count ≡ bytes
  bytes_same start count bytes fit long each =
      let long_whole = whole_long in
      let n = size_at whole start count (omega (arith, long_whole)) in
      ext_get_or 0 (memory_part whole start count) bytes (n ∙ sym long) (λ i h. let b : i < count = omega (arith, n, h) in read_at whole start count i b ∙ each i b)

  pub stub_bytes : (i : ℕ) (m : ModuleValue) → slice_get layout.modules i ≡ Some m →
      memory_part whole m.text.start (module_stub_size m) ≡ words.bytes_of l end i m
  stub_bytes i m f = let h = stub_high i m f in bytes_same m.text.start (module_stub_size m) (words.bytes_of l end i m) (omega (arith, h)) (words.stub_length l end i m) (λ n b. stub_byte i n m f b)

  -- the word of an entry in the stub
  table_word : (i k : ℕ) (m : ModuleValue) (name : List ℕ) → slice_get m.entries k ≡ Some name →
      get_or (stub_of l end i m) (38 + k) 0 ≡ word_named l name
  unfolding stub_words
  table_word i k m name g =
      let h = got m.entries k name g in
      let front = stub_front m.text.start (text_of end i m).end m.ram.start (length (map (word_named l) m.entries)) (m.ram.start + 4 + m.stack) in
      get_or-append-add front (map (word_named l) m.entries) k 0
      ∙ (get_or-map (word_named l) m.entries k name 0 h.0 ∙ ap (word_named l) (h.1 name))

  pub table_words : (i k : ℕ) (m : ModuleValue) (name : List ℕ) → slice_get layout.modules i ≡ Some m →
      slice_get m.entries k ≡ Some name →
      memory_part whole (m.text.start + 76 + 2 * k) 2 ≡ word_bytes (word_named l name)
  table_words i k m name f g =
      let h = got m.entries k name g in
      let high = stub_high i m f in
      let b = h.0 in
      bytes_same (m.text.start + 76 + 2 * k) 2 (word_bytes (word_named l name)) (omega (arith, high, b)) refl (λ n c.
      let z : m.text.start + 76 + 2 * k + n ≡ m.text.start + (2 * (38 + k) + n) = omega arith in
      let count = stub_size_is l end i m in
      ap (slice_index whole) z
      ∙ (stub_byte i (2 * (38 + k) + n) m f (omega (arith, b, c))
      ∙ (words.words_at (stub_of l end i m) (38 + k) n (omega (arith, count, b)) c
      ∙ ap (λ (w : ℕ). slice_index (word_bytes w) n) (table_word i k m name g))))

  -- ---- vectors

  pub vector_words : (k : ℕ) (v : VectorValue) → slice_get layout.vectors k ≡ Some v →
      memory_part whole (65504 + 2 * v.vector) 2 ≡ word_bytes (word_named l v.name)
  vector_words k v f =
      let g = got layout.vectors k v f in
      let low_v = kept.vectors_kept.below_16 k v g.0 in
      let q = ap (λ (x : VectorValue). x.vector) (g.1 v) in
      bytes_same (65504 + 2 * v.vector) 2 (word_bytes (word_named l v.name)) (omega (arith, low_v, q)) refl (λ n b.
      words.vectors_set l with_stubs layout.vectors k n v kept.vectors_kept.below_16 stubs_long g.0 g.1 b (λ j d h w.
      let r = kept.vectors_kept.rising k j d h w in
      let s = ap (λ (x : VectorValue). x.vector) (g.1 d) in
      inl (omega (arith, r, s, b))))

  -- ---- all else

  pub zero_elsewhere : (a : ℕ) → (IsGiven layout objects a → ⊥) → slice_index whole a ≡ 0
  zero_elsewhere a none =
      words_keep a
      (λ i d h. let m = get_or layout.modules i d in outside m.text.start (module_stub_size m) a (by_bool _ (λ t. none (by_stub i m (gets layout.modules i d h) t))))
      (λ i d h. let v = get_or layout.vectors i d in outside (words.start l v) 2 a (by_bool _ (λ t. none (by_vector i v (gets layout.vectors i d h) t))))
      ∙ (fields.objects_keep l low xs with_sections a sections_long good (λ n d h. clear_of n d a h (λ j s g. away (get_or xs n d) j s g))
      ∙ (sections.objects_keep address low xs blank_memory a zeros_long (λ n d h j s b t. away (get_or xs n d) j (get_or (get_or xs n d).object.sections j s) (loaded_at n j d s h b t))
      ∙ zero_there a))
    where
      away : (x : NumberedObject) (j : ℕ) (s : SectionHead) → IsLoaded objects x j s →
          Out (address (x.first + j)) (size s) a
      away x j s g = outside (address (x.first + j)) (size s) a (by_bool _ (λ t. none (by_section x j s g t)))
