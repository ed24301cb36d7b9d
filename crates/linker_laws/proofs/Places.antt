-- Everything lies inside its region, apart from all else, at a multiple of its alignment.
use Rattle.std.proofs.Common.{◌≡◌, ◌≢◌, ◌⊎◌, inl, inr, ℕ, suc, ◌+◌, ◌*◌, ◌%◌, ◌<◌, ◌≤◌, List, length, get_or, Option, Some, None, refl, ap, sym, ◌∙◌, subst, arith}
use Rattle.std.specs.Prelude.{slice_get, slice_index, option_map}
use Rattle.std.proofs.lemmas.Bool.{cases_eq, cases_lt}
use Rattle.std.proofs.lemmas.Option.{same_Some}
use Rattle.mod_layout.specs.declared.Section.{Section}
use Rattle.mod_layout.proofs.Found.{ends_of, within}
use Rattle.elf_objects.specs.Object.{ObjectValue}
use Rattle.layout_file.specs.Overlaps.{ShareNoByte}
use Rattle.layout_file.specs.Sound.{IsLayout}
use Rattle.layout_file.specs.Values.{ModuleValue, LayoutValue, regions}
use Rattle.link_symbols.specs.declared.item.Item.{Item}
use Rattle.link_symbols.specs.declared.item.Part.{Part}
use Rattle.link_symbols.specs.Resolved.{items_of}
use Rattle.linker.specs.Placement.{starts_of, address_at, module_stub_size, round_up}
use Rattle.linker.specs.Numbers.{region_end}
use Rattle.linker.proofs.BoundLemmas.{round_up_above, region_by}
use Rattle.linker.proofs.FitLemmas.{text_starts, ram_starts, first_two}
use Rattle.linker.proofs.ImageLemmas.{pair_at}
use Rattle.linker.proofs.TableLemmas.{regions_count, turn}
use Rattle.linker.proofs.PlaceLemmas.{Goes, goes_in, own_is, some_not}
use Rattle.linker.proofs.RegionLemmas.{items_are_in}
use Rattle.linker.proofs.TurnLemmas.{item_low, item_high, in_turn, room_for, aligned}
use Rattle.linker_laws.specs.Conditions.{ContentsFit}
use Rattle.linker_laws.specs.Places.{Piece, an_item, a_stub, a_stack, span, Lies, item_lies, stub_lies, stack_lies, vectors_lie, ItemsLie, IsInside, LiesInside, LieApart, LiesAligned}
use Rattle.linker_laws.proofs.Conditions.{can_link}
use Rattle.linker_laws.proofs.Searches.{got, gets}

-- ---- sections

-- one that ends where another starts, or before
one_before : (s t : Section) → s.end ≤ t.start → ShareNoByte s t
one_before s t h = λ x p q. let a = ends_of s x p in let b = ends_of t x q in absurd (let u = a.1 in let v = b.0 in omega (arith, u, v))

inside_apart : (s t a b : Section) → IsInside s a → IsInside t b → ShareNoByte a b → ShareNoByte s t
inside_apart s t a b i j h = λ x p q.
    let u = ends_of s x p in let v = ends_of t x q in
    let c = i.start in let d = i.end in let e = j.start in let f = j.end in
    h x (within a x (let w = u.0 in omega (arith, w, c)) (let w = u.1 in omega (arith, w, d))) (within b x (let w = v.0 in omega (arith, w, e)) (let w = v.1 in omega (arith, w, f)))

-- ---- regions by their numbers

abbrev pub region_at : LayoutValue → ℕ → Option Section
region_at layout n = slice_get (regions layout.text layout.ram layout.modules) n

text_region : (layout : LayoutValue) (i : ℕ) → region_at layout (2 + 2 * i) ≡ option_map (λ m. m.text) (slice_get layout.modules i)
text_region layout i = let q : 2 + 2 * i ≡ suc (suc (i + i)) = omega arith in ap (region_at layout) q ∙ (pair_at (λ (m : ModuleValue). m.text) (λ (m : ModuleValue). m.ram) layout.modules i).0

ram_region : (layout : LayoutValue) (i : ℕ) → region_at layout (3 + 2 * i) ≡ option_map (λ m. m.ram) (slice_get layout.modules i)
ram_region layout i = let q : 3 + 2 * i ≡ suc (suc (suc (i + i))) = omega arith in ap (region_at layout) q ∙ (pair_at (λ (m : ModuleValue). m.text) (λ (m : ModuleValue). m.ram) layout.modules i).1

pub text_start : (layout : LayoutValue) (i : ℕ) (m : ModuleValue) → slice_get layout.modules i ≡ Some m →
    slice_index (starts_of layout) (2 + 2 * i) ≡ m.text.start + module_stub_size m
text_start layout i m e = let g = got layout.modules i m e in text_starts layout i m g.0 ∙ ap (λ (x : ModuleValue). x.text.start + module_stub_size x) (g.1 m)

ram_start : (layout : LayoutValue) (i : ℕ) (m : ModuleValue) → slice_get layout.modules i ≡ Some m →
    slice_index (starts_of layout) (3 + 2 * i) ≡ m.ram.start + 4 + m.stack
ram_start layout i m e = let g = got layout.modules i m e in ram_starts layout i m g.0 ∙ ap (λ (x : ModuleValue). x.ram.start + 4 + x.stack) (g.1 m)

-- a region has room for its contents, and ends below the vectors
pub record Bounded (layout : LayoutValue) (objects : List ObjectValue) (n : ℕ) (r : Section) : Type 0 where
  pub low : r.start ≤ slice_index (starts_of layout) n
  pub high : region_end layout objects n ≤ r.end
  pub below : r.end ≤ 65504
  pub above : 512 ≤ r.start

pub goes_at : (layout : LayoutValue) (objects : List ObjectValue) (k : ℕ) (i : Item) (p : Part) → Goes (items_of layout objects) k i p →
    (p.region < 2 + 2 * length layout.modules) × (p.rank < 3)
goes_at layout objects k i p g =
    goes_in (items_of layout objects) (2 + 2 * length layout.modules) k p (items_are_in layout objects) (own_is (items_of layout objects) k i p g)

module _ (layout : LayoutValue) (objects : List ObjectValue) (s : IsLayout layout) (fit : ContentsFit layout (region_end layout objects)) where
  pub text_bounded : (i : ℕ) (m : ModuleValue) → slice_get layout.modules i ≡ Some m →
      Bounded layout objects (2 + 2 * i) m.text
  text_bounded i m e =
      let g = got layout.modules i m e in
      let b = text_start layout i m e in
      let h : round_up 2 (region_end layout objects (2 + 2 * i)) ≤ m.text.end = fit.module_text i m e in
      let t = ap (λ (x : ModuleValue). x.text.end) (g.1 m) in
      let f = ap (λ (x : ModuleValue). x.text.start) (g.1 m) in
      let u = round_up_above 2 (region_end layout objects (2 + 2 * i)) (omega arith) in
      let k = (s.modules_kept i m g.0).text_region in
      let v = k.below_vectors in let w = k.above_devices in
      record { low = omega (arith, b); high = omega (arith, h, u); below = omega (arith, v, t); above = omega (arith, w, f) }

  ram_bounded : (i : ℕ) (m : ModuleValue) → slice_get layout.modules i ≡ Some m →
      Bounded layout objects (3 + 2 * i) m.ram
  ram_bounded i m e =
      let g = got layout.modules i m e in
      let b = ram_start layout i m e in
      let h : round_up 2 (region_end layout objects (3 + 2 * i)) ≤ m.ram.end = fit.module_ram i m e in
      let t = ap (λ (x : ModuleValue). x.ram.end) (g.1 m) in
      let f = ap (λ (x : ModuleValue). x.ram.start) (g.1 m) in
      let u = round_up_above 2 (region_end layout objects (3 + 2 * i)) (omega arith) in
      let k = (s.modules_kept i m g.0).ram_region in
      let v = k.below_vectors in let w = k.above_devices in
      record { low = omega (arith, b); high = omega (arith, h, u); below = omega (arith, v, t); above = omega (arith, w, f) }

  first_bounded : Bounded layout objects 0 layout.text
  first_bounded = let b = (first_two layout).0 in let k = s.text_region in record { low = omega (arith, b); high = fit.text; below = k.below_vectors; above = k.above_devices }

  second_bounded : Bounded layout objects 1 layout.ram
  second_bounded = let b = (first_two layout).1 in let k = s.ram_region in record { low = omega (arith, b); high = fit.ram; below = k.below_vectors; above = k.above_devices }

  -- the region of this number is that one
  it_is : (n k : ℕ) (r t : Section) → n ≡ k → region_at layout k ≡ Some t → region_at layout n ≡ Some r →
      Bounded layout objects k t → Bounded layout objects n r
  it_is n k r t q f e b =
      subst (λ (x : Section). Bounded layout objects n x) (same_Some t r (sym f ∙ (sym (ap (region_at layout) q) ∙ e)))
      (subst (λ (j : ℕ). Bounded layout objects j t) (sym q) b)

  no_region : {A : Type 0} (n k : ℕ) (r : Section) → n ≡ k → region_at layout k ≡ None → region_at layout n ≡ Some r → A
  no_region n k r q f e = some_not r (sym e ∙ (ap (region_at layout) q ∙ f))

  bounded_by : (n : ℕ) (r : Section) → region_at layout n ≡ Some r →
      (n ≡ 0) ⊎ ((n ≡ 1) ⊎ ((i : ℕ) × ((n ≡ 2 + 2 * i) ⊎ (n ≡ 3 + 2 * i)))) → Bounded layout objects n r
  bounded_by n r e (inl q) = it_is n 0 r layout.text q refl e first_bounded
  bounded_by n r e (inr (inl q)) = it_is n 1 r layout.ram q refl e second_bounded
  bounded_by n r e (inr (inr (i, inl q))) = by (slice_get layout.modules i) refl
    where
      by : (o : Option ModuleValue) → slice_get layout.modules i ≡ o → Bounded layout objects n r
      by None f = no_region n (2 + 2 * i) r q (text_region layout i ∙ ap (option_map (λ (m : ModuleValue). m.text)) f) e
      by (Some m) f = it_is n (2 + 2 * i) r m.text q (text_region layout i ∙ ap (option_map (λ (m : ModuleValue). m.text)) f) e (text_bounded i m f)
  bounded_by n r e (inr (inr (i, inr q))) = by (slice_get layout.modules i) refl
    where
      by : (o : Option ModuleValue) → slice_get layout.modules i ≡ o → Bounded layout objects n r
      by None f = no_region n (3 + 2 * i) r q (ram_region layout i ∙ ap (option_map (λ (m : ModuleValue). m.ram)) f) e
      by (Some m) f = it_is n (3 + 2 * i) r m.ram q (ram_region layout i ∙ ap (option_map (λ (m : ModuleValue). m.ram)) f) e (ram_bounded i m f)

  pub bounded : (n : ℕ) (r : Section) → region_at layout n ≡ Some r → Bounded layout objects n r
  bounded n r e = bounded_by n r e (region_by n)

  -- what stands in a region
  pub record Sits (n : ℕ) (t r : Section) : Type 0 where
    pub region : region_at layout n ≡ Some r
    pub inside : IsInside t r

  abbrev pub items : List Item
  items = items_of layout objects

  abbrev pub starts : List ℕ
  starts = starts_of layout

  item_sits : (k : ℕ) (i : Item) (p : Part) (r : Section) → Goes items k i p → region_at layout p.region ≡ Some r →
      Sits p.region (span (address_at starts items k) i.size) r
  item_sits k i p r g f =
      let b = bounded p.region r f in
      let u = b.low in let v = b.high in
      let l = item_low starts items k i p g in
      let h = item_high starts items k i p g (goes_at layout objects k i p g).1 in
      record { region = f; inside = record { start = omega (arith, u, l); end = omega (arith, v, h) } }

  pub stub_sits : (i : ℕ) (m : ModuleValue) → slice_get layout.modules i ≡ Some m →
      Sits (2 + 2 * i) (span m.text.start (module_stub_size m)) m.text
  stub_sits i m e =
      let h = (text_bounded i m e).high in
      let b = text_start layout i m e in
      let u = room_for starts items (2 + 2 * i) in
      record { region = text_region layout i ∙ ap (option_map (λ (m : ModuleValue). m.text)) e; inside = record { start = omega arith; end = omega (arith, h, b, u) } }

  stack_sits : (i : ℕ) (m : ModuleValue) → slice_get layout.modules i ≡ Some m →
      Sits (3 + 2 * i) (span m.ram.start (4 + m.stack)) m.ram
  stack_sits i m e =
      let h = (ram_bounded i m e).high in
      let b = ram_start layout i m e in
      let u = room_for starts items (3 + 2 * i) in
      record { region = ram_region layout i ∙ ap (option_map (λ (m : ModuleValue). m.ram)) e; inside = record { start = omega arith; end = omega (arith, h, b, u) } }

  pub inside : (p : Piece) (t r : Section) → Lies layout objects p t r → IsInside t r
  inside p t r (item_lies k i q x e f g) = (item_sits k i q x (e, f) g).inside
  inside p t r (stub_lies i m e) = (stub_sits i m e).inside
  inside p t r (stack_lies i m e) = (stack_sits i m e).inside
  inside p t r vectors_lie = record { start = omega arith; end = omega arith }

  -- ---- apart

  regions_apart : (n k : ℕ) (a b : Section) → region_at layout n ≡ Some a → region_at layout k ≡ Some b → n < k →
      ShareNoByte a b
  regions_apart n k a b e f h =
      let all = regions layout.text layout.ram layout.modules in
      let g = got all n a e in let j = got all k b f in
      subst (λ (x : Section). ShareNoByte x b) (g.1 a) (subst (λ (x : Section). ShareNoByte (get_or all n a) x) (j.1 a) (s.regions_apart n k a h j.0))

  away_by : (n k : ℕ) (t u a b : Section) → Sits n t a → Sits k u b → n ≢ k → (n < k) ⊎ (k ≤ n) → (k < n) ⊎ (n ≤ k) →
      ShareNoByte t u
  away_by n k t u a b p q ne (inl h) c = inside_apart t u a b p.inside q.inside (regions_apart n k a b p.region q.region h)
  away_by n k t u a b p q ne (inr h) (inl g) = turn u t (inside_apart u t b a q.inside p.inside (regions_apart k n b a q.region p.region g))
  away_by n k t u a b p q ne (inr h) (inr g) = absurd (ne (omega arith))

  -- of two regions
  away : (n k : ℕ) (t u a b : Section) → Sits n t a → Sits k u b → n ≢ k → ShareNoByte t u
  away n k t u a b p q ne = away_by n k t u a b p q ne (cases_lt n k) (cases_lt k n)

  one_or : (t u : Section) → (t.end ≤ u.start) ⊎ (u.end ≤ t.start) → ShareNoByte t u
  one_or t u (inl h) = one_before t u h
  one_or t u (inr h) = turn u t (one_before u t h)

  abbrev item_span : ℕ → Item → Section
  item_span k i = span (address_at starts items k) i.size

  two_items : (k j : ℕ) (x y : Item) (p q : Part) (a b : Section) → Goes items k x p → region_at layout p.region ≡ Some a →
      Goes items j y q → region_at layout q.region ≡ Some b → k ≢ j → (p.region ≡ q.region) ⊎ (p.region ≢ q.region) →
      ShareNoByte (item_span k x) (item_span j y)
  two_items k j x y p q a b e f g h ne (inl r) = one_or (item_span k x) (item_span j y) (in_turn starts items k j x y p q e g ne r)
  two_items k j x y p q a b e f g h ne (inr r) = away p.region q.region (item_span k x) (item_span j y) a b (item_sits k x p a e f) (item_sits j y q b g h) r

  item_stub : (k i : ℕ) (x : Item) (p : Part) (a : Section) (m : ModuleValue) → Goes items k x p →
      region_at layout p.region ≡ Some a → slice_get layout.modules i ≡ Some m →
      (p.region ≡ 2 + 2 * i) ⊎ (p.region ≢ 2 + 2 * i) → ShareNoByte (item_span k x) (span m.text.start (module_stub_size m))
  item_stub k i x p a m e f g (inl r) =
      let l = item_low starts items k x p e in let t = ap (slice_index starts) r in let b = text_start layout i m g in
      turn _ _ (one_before (span m.text.start (module_stub_size m)) (item_span k x) (omega (arith, l, t, b)))
  item_stub k i x p a m e f g (inr r) = away p.region (2 + 2 * i) _ _ a m.text (item_sits k x p a e f) (stub_sits i m g) r

  item_stack : (k i : ℕ) (x : Item) (p : Part) (a : Section) (m : ModuleValue) → Goes items k x p →
      region_at layout p.region ≡ Some a → slice_get layout.modules i ≡ Some m →
      (p.region ≡ 3 + 2 * i) ⊎ (p.region ≢ 3 + 2 * i) → ShareNoByte (item_span k x) (span m.ram.start (4 + m.stack))
  item_stack k i x p a m e f g (inl r) =
      let l = item_low starts items k x p e in let t = ap (slice_index starts) r in let b = ram_start layout i m g in
      turn _ _ (one_before (span m.ram.start (4 + m.stack)) (item_span k x) (omega (arith, l, t, b)))
  item_stack k i x p a m e f g (inr r) = away p.region (3 + 2 * i) _ _ a m.ram (item_sits k x p a e f) (stack_sits i m g) r

  one_item : (k j : ℕ) (x y : Item) → slice_get items k ≡ Some x → slice_get items j ≡ Some y → k ≡ j → an_item k x ≡ an_item j y
  one_item k j x y e f z = ap (λ (n : ℕ). an_item n x) z ∙ ap (an_item j) (same_Some x y (sym e ∙ (ap (slice_get items) z ∙ f)))

  stub_stack : (i j : ℕ) (m o : ModuleValue) → slice_get layout.modules i ≡ Some m →
      slice_get layout.modules j ≡ Some o →
      ShareNoByte (span m.text.start (module_stub_size m)) (span o.ram.start (4 + o.stack))
  stub_stack i j m o e f = away (2 + 2 * i) (3 + 2 * j) _ _ m.text o.ram (stub_sits i m e) (stack_sits j o f) (λ z. absurd (omega (arith, z)))

  -- nothing reaches the vectors
  below_vectors : (n : ℕ) (t a : Section) → Sits n t a → ShareNoByte t (span 65504 32)
  below_vectors n t a p = let b = (bounded n a p.region).below in let e = p.inside.end in one_before t (span 65504 32) (omega (arith, b, e))

  pub apart : (p q : Piece) (t u a b : Section) → Lies layout objects p t a → Lies layout objects q u b → p ≢ q →
      ShareNoByte t u
  apart p q t u a b (item_lies k v x r d e f) (item_lies j n y w c g h) ne = two_items k j v n x y r w (d, e) f (c, g) h (λ z. ne (one_item k j v n d c z)) (cases_eq x.region y.region)
  apart p q t u a b (item_lies k v x r d e f) (stub_lies i m g) ne = item_stub k i v x r m (d, e) f g (cases_eq x.region (2 + 2 * i))
  apart p q t u a b (item_lies k v x r d e f) (stack_lies i m g) ne = item_stack k i v x r m (d, e) f g (cases_eq x.region (3 + 2 * i))
  apart p q t u a b (item_lies k v x r d e f) vectors_lie ne = below_vectors x.region t r (item_sits k v x r (d, e) f)
  apart p q t u a b (stub_lies i m g) (item_lies k v x r d e f) ne = turn _ _ (item_stub k i v x r m (d, e) f g (cases_eq x.region (2 + 2 * i)))
  apart p q t u a b (stub_lies i m e) (stub_lies j o f) ne = away (2 + 2 * i) (2 + 2 * j) _ _ m.text o.text (stub_sits i m e) (stub_sits j o f) (λ z. ne (ap a_stub (omega (arith, z))))
  apart p q t u a b (stub_lies i m e) (stack_lies j o f) ne = stub_stack i j m o e f
  apart p q t u a b (stub_lies i m e) vectors_lie ne = below_vectors (2 + 2 * i) t m.text (stub_sits i m e)
  apart p q t u a b (stack_lies i m g) (item_lies k v x r d e f) ne = turn _ _ (item_stack k i v x r m (d, e) f g (cases_eq x.region (3 + 2 * i)))
  apart p q t u a b (stack_lies i m e) (stub_lies j o f) ne = turn _ _ (stub_stack j i o m f e)
  apart p q t u a b (stack_lies i m e) (stack_lies j o f) ne = away (3 + 2 * i) (3 + 2 * j) _ _ m.ram o.ram (stack_sits i m e) (stack_sits j o f) (λ z. ne (ap a_stack (omega (arith, z))))
  apart p q t u a b (stack_lies i m e) vectors_lie ne = below_vectors (3 + 2 * i) t m.ram (stack_sits i m e)
  apart p q t u a b vectors_lie (item_lies k v x r d e f) ne = turn _ _ (below_vectors x.region u r (item_sits k v x r (d, e) f))
  apart p q t u a b vectors_lie (stub_lies i m e) ne = turn _ _ (below_vectors (2 + 2 * i) u m.text (stub_sits i m e))
  apart p q t u a b vectors_lie (stack_lies i m e) ne = turn _ _ (below_vectors (3 + 2 * i) u m.ram (stack_sits i m e))
  apart p q t u a b vectors_lie vectors_lie ne = absurd (ne refl)

-- ---- the laws

pub lies_inside : LiesInside
lies_inside layout objects s e = inside layout objects s (can_link layout objects e).contents_fit

pub lie_apart : LieApart
lie_apart layout objects s e = apart layout objects s (can_link layout objects e).contents_fit

pub lies_at : (layout : LayoutValue) (objects : List ObjectValue) (k : ℕ) (i : Item) (p : Part) → Goes (items_of layout objects) k i p →
    (r : Section) × Lies layout objects (an_item k i) (span (address_at (starts_of layout) (items_of layout objects) k) i.size) r
lies_at layout objects k i p g =
    let all = regions layout.text layout.ram layout.modules in
    let l = (goes_at layout objects k i p g).0 in
    let n = regions_count layout.modules in
    (get_or all p.region layout.text, item_lies k i p (get_or all p.region layout.text) g.0 g.1 (gets all p.region layout.text (omega (arith, l, n))))

lies_by : (layout : LayoutValue) (objects : List ObjectValue) (k : ℕ) (i : Item) → slice_get (items_of layout objects) k ≡ Some i →
    (o : Option Part) → i.part ≡ o → o ≢ None → (s : Section) × ((r : Section) × Lies layout objects (an_item k i) s r)
lies_by layout objects k i e None f h = absurd (h refl)
lies_by layout objects k i e (Some p) f h = (_, lies_at layout objects k i p (e, f))

pub items_lie : ItemsLie
items_lie layout objects k i e h = lies_by layout objects k i e i.part refl h

pub lies_aligned : LiesAligned
lies_aligned layout objects s p t r (item_lies k i q x e f g) = aligned (starts_of layout) (items_of layout objects) k i q (e, f)
lies_aligned layout objects s p t r (stub_lies i m e) =
    let g = got layout.modules i m e in
    ap (λ (x : ModuleValue). x.text.start % 2) (sym (g.1 m)) ∙ (s.modules_kept i m g.0).text_region.even_start
lies_aligned layout objects s p t r (stack_lies i m e) =
    let g = got layout.modules i m e in
    ap (λ (x : ModuleValue). x.ram.start % 2) (sym (g.1 m)) ∙ (s.modules_kept i m g.0).ram_region.even_start
lies_aligned layout objects s p t r vectors_lie = refl
