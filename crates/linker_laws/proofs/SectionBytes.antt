-- Sections put into a memory: each byte of one that no later one overlaps, and the bytes outside all.
use Rattle.std.proofs.Common.{◌≡◌, ℕ, zero, suc, ◌+◌, ◌-◌, ◌<◌, ◌≤◌, List, [], ◌∷◌, length, get_or, Bool, true, false, cond, refl, ap, sym, ◌∙◌, subst, arith, fold}
use Rattle.std.specs.Prelude.{slice_index}
use Rattle.elf_objects.specs.declared.object.SectionHead.{SectionHead}
use Rattle.link_symbols.specs.Passes.{NumberedObject, part, fold_at}
use Rattle.link_symbols.specs.Parts.{is_loaded_head}
use Rattle.linker.specs.Bytes.{bytes_put}
use Rattle.linker.specs.Sections.{put_section, put_sections}
use Rattle.linker.proofs.ClearLemmas.{part_size}
use Rattle.linker_laws.proofs.Writes.{Out, out_less, put_long, put_out, put_in}

-- a memory of 65,536 bytes, or more
abbrev pub Long : List ℕ → Type 0
Long m = 65536 ≤ length m

module _ (address : ℕ → ℕ) (low : (k : ℕ) → address k ≤ 65536) where
  -- an address is outside a section, if it is loaded
  abbrev pub Away : NumberedObject → ℕ → SectionHead → ℕ → Type 0
  Away x k s a = is_loaded_head s ≡ true → Out (address (x.first + k)) (s.bytes.end - s.bytes.start) a

  long_by : (b : Bool) (x : NumberedObject) (m : List ℕ) (k : ℕ) (s : SectionHead) → Long m →
      Long (cond b (bytes_put m (address (x.first + k)) (part x.object s.bytes)) m)
  long_by false x m k s h = h
  long_by true x m k s h = let w = low (x.first + k) in let p = put_long m (address (x.first + k)) (part x.object s.bytes) (omega arith) in omega (arith, p)

  section_long : (x : NumberedObject) (m : List ℕ) (k : ℕ) (s : SectionHead) → Long m →
      Long (put_section address x m k s)
  unfolding put_section
  section_long x m k s h = long_by (is_loaded_head s) x m k s h

  keep_by : (b : Bool) (x : NumberedObject) (m : List ℕ) (k : ℕ) (s : SectionHead) (a : ℕ) → Long m →
      (b ≡ true → Out (address (x.first + k)) (s.bytes.end - s.bytes.start) a) →
      slice_index (cond b (bytes_put m (address (x.first + k)) (part x.object s.bytes)) m) a ≡ slice_index m a
  keep_by false x m k s a h out = refl
  keep_by true x m k s a h out =
      let w = low (x.first + k) in
      let z = part_size x.object.file s.bytes.start s.bytes.end in
      put_out m (address (x.first + k)) (part x.object s.bytes) a (omega arith) (out_less _ _ _ a z (out refl))

  section_keep : (x : NumberedObject) (m : List ℕ) (k : ℕ) (s : SectionHead) (a : ℕ) → Long m → Away x k s a →
      slice_index (put_section address x m k s) a ≡ slice_index m a
  unfolding put_section
  section_keep x m k s a h out = keep_by (is_loaded_head s) x m k s a h out

  set_by : (b : Bool) (x : NumberedObject) (m : List ℕ) (k : ℕ) (s : SectionHead) (n : ℕ) → b ≡ true → Long m →
      n < length (part x.object s.bytes) →
      slice_index (cond b (bytes_put m (address (x.first + k)) (part x.object s.bytes)) m) (address (x.first + k) + n) ≡ slice_index (part x.object s.bytes) n
  set_by false x m k s n e h l = cc
  set_by true x m k s n e h l = let w = low (x.first + k) in put_in m (address (x.first + k)) (part x.object s.bytes) n (omega arith) l

  section_set : (x : NumberedObject) (m : List ℕ) (k : ℕ) (s : SectionHead) (n : ℕ) → is_loaded_head s ≡ true →
      Long m → n < length (part x.object s.bytes) →
      slice_index (put_section address x m k s) (address (x.first + k) + n) ≡ slice_index (part x.object s.bytes) n
  unfolding put_section
  section_set x m k s n e h l = set_by (is_loaded_head s) x m k s n e h l

  -- ---- an object's sections, numbered from i on

  heads_long : (x : NumberedObject) (m : List ℕ) (i : ℕ) (heads : List SectionHead) → Long m →
      Long (fold_at (put_section address x) m i heads)
  heads_long x m i [] h = h
  heads_long x m i (s ∷ ss) h = heads_long x (put_section address x m i s) (i + 1) ss (section_long x m i s h)

  heads_keep : (x : NumberedObject) (m : List ℕ) (i : ℕ) (heads : List SectionHead) (a : ℕ) → Long m →
      ((k : ℕ) (d : SectionHead) → k < length heads → Away x (i + k) (get_or heads k d) a) →
      slice_index (fold_at (put_section address x) m i heads) a ≡ slice_index m a
  heads_keep x m i [] a h out = refl
  heads_keep x m i (s ∷ ss) a h out =
      let z : i + 0 ≡ i = omega arith in
      heads_keep x (put_section address x m i s) (i + 1) ss a (section_long x m i s h)
      (λ k d l. let t : i + suc k ≡ (i + 1) + k = omega arith in subst (λ (n : ℕ). Away x n (get_or ss k d) a) t (out (suc k) d (omega arith)))
      ∙ section_keep x m i s a h (subst (λ (n : ℕ). Away x n s a) z (out 0 s (omega arith)))

  head_set : (x : NumberedObject) (m : List ℕ) (i : ℕ) (heads : List SectionHead) (k n : ℕ) (s : SectionHead) →
      Long m → k < length heads → ((d : SectionHead) → get_or heads k d ≡ s) → is_loaded_head s ≡ true →
      n < length (part x.object s.bytes) →
      ((j : ℕ) (d : SectionHead) → k < j → j < length heads → Away x (i + j) (get_or heads j d) (address (x.first + (i + k)) + n)) →
      slice_index (fold_at (put_section address x) m i heads) (address (x.first + (i + k)) + n) ≡ slice_index (part x.object s.bytes) n
  head_set x m i [] k n s h l is e w out = absurd (omega arith)
  head_set x m i (t ∷ ts) zero n s h l is e w out =
      let z : i + 0 ≡ i = omega arith in
      let a : ℕ = address (x.first + (i + 0)) + n in
      let q : a ≡ address (x.first + i) + n = ap (λ (j : ℕ). address (x.first + j) + n) z in
      let same = is s in
      heads_keep x (put_section address x m i t) (i + 1) ts a (section_long x m i t h)
      (λ j d b. let u : i + suc j ≡ (i + 1) + j = omega arith in subst (λ (v : ℕ). Away x v (get_or ts j d) a) u (out (suc j) d (omega arith) (omega arith)))
      ∙ (ap (slice_index (put_section address x m i t)) q
      ∙ (ap (λ (v : SectionHead). slice_index (put_section address x m i v) (address (x.first + i) + n)) same
      ∙ section_set x m i s n e h w))
  head_set x m i (t ∷ ts) (suc k) n s h l is e w out =
      let z : (i + 1) + k ≡ i + suc k = omega arith in
      let q : address (x.first + (i + suc k)) + n ≡ address (x.first + ((i + 1) + k)) + n = ap (λ (j : ℕ). address (x.first + j) + n) (sym z) in
      ap (slice_index (fold_at (put_section address x) (put_section address x m i t) (i + 1) ts)) q
      ∙ head_set x (put_section address x m i t) (i + 1) ts k n s (section_long x m i t h) (omega arith) is e w
      (λ j d g b. let u : i + suc j ≡ (i + 1) + j = omega arith in
      subst (λ (c : ℕ). Away x ((i + 1) + j) (get_or ts j d) c) q (subst (λ (v : ℕ). Away x v (get_or ts j d) (address (x.first + (i + suc k)) + n)) u (out (suc j) d (omega arith) (omega arith))))

  -- ---- all objects' sections

  pub objects_long : (xs : List NumberedObject) (m : List ℕ) → Long m → Long (fold (put_sections address) m xs)
  objects_long [] m h = h
  objects_long (x ∷ xs) m h = objects_long xs (put_sections address m x) (heads_long x m 0 x.object.sections h)

  -- an address is outside all loaded sections of an object
  abbrev pub AwayFrom : NumberedObject → ℕ → Type 0
  AwayFrom x a = (k : ℕ) (d : SectionHead) → k < length x.object.sections → Away x k (get_or x.object.sections k d) a

  from_0 : (x : NumberedObject) (a : ℕ) → AwayFrom x a → (k : ℕ) (d : SectionHead) → k < length x.object.sections →
      Away x (0 + k) (get_or x.object.sections k d) a
  from_0 x a out k d l = let z : k ≡ 0 + k = omega arith in subst (λ (n : ℕ). Away x n (get_or x.object.sections k d) a) z (out k d l)

  pub objects_keep : (xs : List NumberedObject) (m : List ℕ) (a : ℕ) → Long m →
      ((n : ℕ) (d : NumberedObject) → n < length xs → AwayFrom (get_or xs n d) a) →
      slice_index (fold (put_sections address) m xs) a ≡ slice_index m a
  objects_keep [] m a h out = refl
  objects_keep (x ∷ xs) m a h out =
      objects_keep xs (put_sections address m x) a (heads_long x m 0 x.object.sections h) (λ n d l. out (suc n) d (omega arith))
      ∙ heads_keep x m 0 x.object.sections a h (from_0 x a (out 0 x (omega arith)))

  pub object_set : (xs : List NumberedObject) (m : List ℕ) (i k n : ℕ) (x : NumberedObject) (s : SectionHead) →
      Long m → i < length xs → ((d : NumberedObject) → get_or xs i d ≡ x) →
      k < length x.object.sections → ((d : SectionHead) → get_or x.object.sections k d ≡ s) → is_loaded_head s ≡ true → n < length (part x.object s.bytes) →
      ((j : ℕ) (d : SectionHead) → k < j → j < length x.object.sections → Away x j (get_or x.object.sections j d) (address (x.first + k) + n)) →
      ((j : ℕ) (d : NumberedObject) → i < j → j < length xs → AwayFrom (get_or xs j d) (address (x.first + k) + n)) →
      slice_index (fold (put_sections address) m xs) (address (x.first + k) + n) ≡ slice_index (part x.object s.bytes) n
  object_set [] m i k n x s h l is b at e w own out = absurd (omega arith)
  object_set (y ∷ ys) m zero k n x s h l is b at e w own out =
      let z : 0 + k ≡ k = omega arith in
      let q : address (x.first + k) + n ≡ address (x.first + (0 + k)) + n = ap (λ (j : ℕ). address (x.first + j) + n) (sym z) in
      let a : ℕ = address (x.first + k) + n in
      objects_keep ys (put_sections address m y) a (heads_long y m 0 y.object.sections h) (λ j d c. out (suc j) d (omega arith) (omega arith))
      ∙ (ap (λ (v : NumberedObject). slice_index (put_sections address m v) a) (is x)
      ∙ (ap (slice_index (put_sections address m x)) q
      ∙ head_set x m 0 x.object.sections k n s h b at e w
      (λ j d g c. let u : j ≡ 0 + j = omega arith in subst (λ (v : ℕ). Away x (0 + j) (get_or x.object.sections j d) v) q (subst (λ (v : ℕ). Away x v (get_or x.object.sections j d) a) u (own j d g c)))))
  object_set (y ∷ ys) m (suc i) k n x s h l is b at e w own out =
      object_set ys (put_sections address m y) i k n x s (heads_long y m 0 y.object.sections h) (omega arith) is b at e w own (λ j d g c. out (suc j) d (omega arith) (omega arith))
