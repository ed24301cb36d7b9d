-- The parts of a map, one section after another.
use Rattle.std.proofs.Common.{◌≡◌, ℕ, suc, ◌+◌, ◌≤◌, ◌<◌, List, [], ◌∷◌, Bool, true, false, ◌&&◌, Some, refl, sym, ap, subst, arith}
use Rattle.std.specs.Prelude.{All, fold, nat_lt, slice_get, slice_index}
use Rattle.std.proofs.lemmas.Bool.Decides.{nat_tests}
use Rattle.elf_objects.specs.Object.{ObjectValue}
use Rattle.elf_objects.specs.declared.object.SectionHead.{SectionHead}
use Rattle.layout_file.specs.Values.{LayoutValue}
use Rattle.linker.specs.Numbers.{linking_of}
use Rattle.link_symbols.specs.Parts.{is_loaded_head}
use Rattle.link_symbols.specs.Passes.{NumberedObject, numbered_objects, fold_at}
use Rattle.linker_laws.specs.Contents.{IsLoaded, SectionBytes, field_span}
use Rattle.mod_layout.specs.Table.{holds}
use Rattle.link_map.specs.Parts.{PartValue, insert_part, section_part, with_part, with_section, with_sections, parts_of}
use Rattle.map_laws.specs.Laws.{IsSectionPart, Each, Rises, PartBytes, map_parts}

-- ---- what holds of each

insert_by : (P : PartValue → Type 0) (p q : PartValue) (qs : List PartValue) (b : Bool) → nat_lt p.at q.at ≡ b → P p → P q → Each P qs → Each P (insert_part p qs) → Each P (insert_part p (q ∷ qs))
insert_by P p q qs true e hp hq hs more = rw e (hp, (hq, hs))
insert_by P p q qs false e hp hq hs more = rw e (hq, more)

each_inserted : (P : PartValue → Type 0) (p : PartValue) (ps : List PartValue) → P p → Each P ps → Each P (insert_part p ps)
each_inserted P p [] h hs = (h, tt)
each_inserted P p (q ∷ qs) h hs = insert_by P p q qs (nat_lt p.at q.at) refl h hs.0 hs.1 (each_inserted P p qs h hs.1)

-- a section of an object, among those from an index on
abbrev pub Sections : (PartValue → Type 0) → (ℕ → ℕ) → NumberedObject → ℕ → List SectionHead → Type 0
Sections P address x i [] = Unit {0}
Sections P address x i (s ∷ ss) = (is_loaded_head s ≡ true → 0 < s.size → P (section_part address x i s)) × Sections P address x (i + 1) ss

both : (a b : Bool) → (a && b) ≡ true → (a ≡ true) × (b ≡ true)
both true b e = (refl, e)
both false b e = cc

above_zero : (n : ℕ) → nat_lt 0 n ≡ true → 0 < n
above_zero n e = grind (arith, nat_tests)

part_more : (P : PartValue → Type 0) (b : Bool) (p : PartValue) (ps : List PartValue) → (b ≡ true → P p) → Each P ps → Each P (with_part b ps p)
part_more P true p ps h hs = each_inserted P p ps (h refl) hs
part_more P false p ps h hs = hs

sections_more : (P : PartValue → Type 0) (address : ℕ → ℕ) (x : NumberedObject) (i : ℕ) (ss : List SectionHead) (ps : List PartValue) → Sections P address x i ss → Each P ps → Each P (fold_at (with_section address x) ps i ss)
sections_more P address x i [] ps h hs = hs
sections_more P address x i (s ∷ ss) ps h hs =
    sections_more P address x (i + 1) ss (with_section address x ps i s) h.1
    (part_more P (is_loaded_head s && nat_lt 0 s.size) (section_part address x i s) ps (λ e. let t = both (is_loaded_head s) (nat_lt 0 s.size) e in h.0 t.0 (above_zero s.size t.1)) hs)

abbrev pub Objects : (PartValue → Type 0) → (ℕ → ℕ) → List NumberedObject → Type 0
Objects P address [] = Unit {0}
Objects P address (x ∷ xs) = Sections P address x 0 x.object.sections × Objects P address xs

objects_more : (P : PartValue → Type 0) (address : ℕ → ℕ) (xs : List NumberedObject) (ps : List PartValue) → Objects P address xs → Each P ps → Each P (fold (with_sections address) ps xs)
objects_more P address [] ps h hs = hs
objects_more P address (x ∷ xs) ps h hs = objects_more P address xs (with_sections address ps x) h.1 (sections_more P address x 0 x.object.sections ps h.0 hs)

-- what holds of each loaded section with bytes holds of each part
pub each_part : (P : PartValue → Type 0) (address : ℕ → ℕ) (os : List ObjectValue) →
    ((x : NumberedObject) (k : ℕ) (s : SectionHead) → IsLoaded os x k s → 0 < s.size → P (section_part address x k s)) → Each P (parts_of address os)
each_part P address os h = objects_more P address (numbered_objects os) [] (all_objects (numbered_objects os) 0 (λ n x e. let k : 0 + n ≡ n = omega arith in subst (λ j. slice_get (numbered_objects os) j ≡ Some x) (sym k) e)) tt
  where
    all_sections : (x : NumberedObject) (number : ℕ) → slice_get (numbered_objects os) number ≡ Some x → (ss : List SectionHead) (i : ℕ) →
        ((n : ℕ) (s : SectionHead) → slice_get ss n ≡ Some s → slice_get x.object.sections (i + n) ≡ Some s) → Sections P address x i ss
    all_sections x number here [] i e = tt
    all_sections x number here (s ∷ ss) i e =
        let zero_more : i + 0 ≡ i = omega arith in (
          (λ loaded some. h x i s (record { number = number; object = here; section = subst (λ k. slice_get x.object.sections k ≡ Some s) zero_more (e 0 s refl); loaded = loaded }) some),
          all_sections x number here ss (i + 1) (λ n t g. let k : i + suc n ≡ i + 1 + n = omega arith in subst (λ j. slice_get x.object.sections j ≡ Some t) k (e (suc n) t g)),
        )

    all_objects : (xs : List NumberedObject) (i : ℕ) → ((n : ℕ) (x : NumberedObject) → slice_get xs n ≡ Some x → slice_get (numbered_objects os) (i + n) ≡ Some x) → Objects P address xs
    all_objects [] i e = tt
    all_objects (x ∷ xs) i e =
        let zero_more : i + 0 ≡ i = omega arith in (
          all_sections x i (subst (λ k. slice_get (numbered_objects os) k ≡ Some x) zero_more (e 0 x refl)) x.object.sections 0 (λ n s g. let k : 0 + n ≡ n = omega arith in subst (λ j. slice_get x.object.sections j ≡ Some s) (sym k) g),
          all_objects xs (i + 1) (λ n y g. let k : i + suc n ≡ i + 1 + n = omega arith in subst (λ j. slice_get (numbered_objects os) j ≡ Some y) k (e (suc n) y g)),
        )

pub parts_sections : (layout : LayoutValue) (os : List ObjectValue) → Each (IsSectionPart layout os) (map_parts layout os)
parts_sections layout os = each_part (IsSectionPart layout os) (linking_of layout os).address os
    (λ x k s loaded some. record { object = x; index = k; section = s; loaded = loaded; some = some; same = refl })

-- ---- in rising address

lower : (a b : ℕ) (ps : List PartValue) → a ≤ b → Each (λ (r : PartValue). b ≤ r.at) ps → Each (λ (r : PartValue). a ≤ r.at) ps
lower a b [] h hs = tt
lower a b (p ∷ ps) h hs = let first : b ≤ p.at = hs.0 in (omega arith, lower a b ps h hs.1)

rise_by : (p q : PartValue) (qs : List PartValue) (b : Bool) → nat_lt p.at q.at ≡ b → Rises (q ∷ qs) → Rises (insert_part p qs) → Rises (insert_part p (q ∷ qs))
rise_by p q qs true e h more = let low : p.at < q.at = grind (arith, nat_tests) in rw e (((omega arith, lower p.at q.at qs (omega arith) h.0), h))
rise_by p q qs false e h more = let high : q.at ≤ p.at = grind (arith, nat_tests) in rw e ((each_inserted (λ (r : PartValue). q.at ≤ r.at) p qs high h.0, more))

inserted_rises : (p : PartValue) (ps : List PartValue) → Rises ps → Rises (insert_part p ps)
inserted_rises p [] h = (tt, tt)
inserted_rises p (q ∷ qs) h = rise_by p q qs (nat_lt p.at q.at) refl h (inserted_rises p qs h.1)

part_rises : (b : Bool) (p : PartValue) (ps : List PartValue) → Rises ps → Rises (with_part b ps p)
part_rises true p ps h = inserted_rises p ps h
part_rises false p ps h = h

sections_rise : (address : ℕ → ℕ) (x : NumberedObject) (i : ℕ) (ss : List SectionHead) (ps : List PartValue) → Rises ps → Rises (fold_at (with_section address x) ps i ss)
sections_rise address x i [] ps h = h
sections_rise address x i (s ∷ ss) ps h = sections_rise address x (i + 1) ss (with_section address x ps i s) (part_rises (is_loaded_head s && nat_lt 0 s.size) (section_part address x i s) ps h)

objects_rise : (address : ℕ → ℕ) (xs : List NumberedObject) (ps : List PartValue) → Rises ps → Rises (fold (with_sections address) ps xs)
objects_rise address [] ps h = h
objects_rise address (x ∷ xs) ps h = objects_rise address xs (with_sections address ps x) (sections_rise address x 0 x.object.sections ps h)

pub parts_rise : (layout : LayoutValue) (os : List ObjectValue) → Rises (map_parts layout os)
parts_rise layout os = objects_rise (linking_of layout os).address (numbered_objects os) [] tt

-- ---- the bytes

pub part_bytes : SectionBytes → PartBytes
part_bytes given layout os image linked p x k s loaded same n within apart =
    let at : p.at ≡ (linking_of layout os).address (x.first + k) = ap (λ (q : PartValue). q.at) same in
    let fields = subst (λ (a : ℕ). All (λ r. holds (field_span layout os x r) (a + n) ≡ false) x.object.relocations) at apart in
    subst (λ (a : ℕ). slice_index image.memory (a + n) ≡ slice_index x.object.file (s.bytes.start + n)) (sym at) (given layout os image linked x k s loaded n within fields)
