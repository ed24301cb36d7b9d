-- Objects link exactly where the conditions hold.
use Rattle.std.proofs.Common.{◌≡◌, ◌≢◌, ℕ, zero, suc, ◌+◌, ◌*◌, ◌%◌, ◌<◌, ◌≤◌, pos, List, [], ◌∷◌, length, get_or, Option, Some, None, Bool, true, false, not, ◌&&◌, ◌||◌, ◌==◌, nat_lt, is_none, option_and_then, IfSome, replicate, refl, ap, sym, ◌∙◌, subst, arith}
use Rattle.std.specs.Prelude.{All, slice_get, if◌then◌else◌}
use Rattle.std.proofs.lemmas.Bool.{and_parts}
use Rattle.std.proofs.lemmas.Bool.Decides.{nat_tests}
use Rattle.std.proofs.lemmas.List.{length-replicate}
use Rattle.elf_objects.specs.Object.{ObjectValue}
use Rattle.elf_objects.specs.declared.object.SectionHead.{SectionHead}
use Rattle.elf_objects.specs.declared.object.Symbol.{Symbol}
use Rattle.elf_objects.specs.declared.object.Relocation.{Relocation}
use Rattle.layout_file.specs.Values.{VectorValue, ModuleValue, LayoutValue}
use Rattle.reloc_apply.proofs.AppliesLemmas.{applies_ok}
use Rattle.link_symbols.specs.declared.fault.LinkFault.{LinkFault}
use Rattle.link_symbols.specs.declared.fault.LinkFault.TheVariants as fault
use Rattle.link_symbols.specs.declared.fault.Region.{Region}
use Rattle.link_symbols.specs.declared.fault.Region.TheVariants as region
use Rattle.link_symbols.specs.declared.item.Item.{Item}
use Rattle.link_symbols.specs.declared.item.Part.{Part}
use Rattle.link_symbols.specs.declared.symbol.Meaning.{Meaning}
use Rattle.link_symbols.specs.declared.symbol.Meaning.TheVariants as meaning
use Rattle.mod_layout.specs.declared.Section.{Section}
use Rattle.mod_layout.specs.First.{first_in}
use Rattle.link_symbols.specs.Passes.{NumberedObject, numbered_objects, part}
use Rattle.std.specs.Bool.{then_some}
use Rattle.link_symbols.specs.Parts.{is_loaded_head, code_part, part_of, item_of}
use Rattle.link_symbols.specs.Symbols.{named_symbol, named_symbols}
use Rattle.link_symbols.specs.Names.{stands_for, symbol_meaning}
use Rattle.link_symbols.specs.Resolved.{items_of}
use Rattle.linker.specs.Placement.{text_of, ram_of}
use Rattle.linker.specs.Numbers.{Linking, linking_of, numbers_in, region_end}
use Rattle.linker.specs.Fields.{field_place, file_size, symbol_sum, reloc_fault_to, reloc_fault, reloc_fault_in}
use Rattle.link_symbols.specs.Refusals.{no_place, no_place_at, no_place_in, is_used, undefined, undefined_at, undefined_in, no_vector, no_vector_at, no_entry, no_entry_at, no_entry_in, is_code_of, is_module_entry, is_entry_in, elsewhere, elsewhere_at, elsewhere_in, unresolved}
use Rattle.linker.specs.Refusals.{overfull, overfull_at, overfull_in, link_fault_of}
use Rattle.mod_layout.proofs.FirstLemmas.{both_none}
use Rattle.linker.proofs.BoundLemmas.{not_over}
use Rattle.linker.proofs.RelocLemmas.{ok_none, AppliesTo, applies}
use Rattle.linker_laws.specs.Conditions.{SectionsPlaced, UsedStand, VectorsStand, IsEntryPlace, EntriesStand, ContentsFit, RelocationsApply, CanLink, LinksExactly}
use Rattle.linker_laws.proofs.Searches.{or_none, in_none, none_in, at_none, none_at, found_none, none_found, refused_not, not_refused, some_is, is_some_by}
use Rattle.linker_laws.proofs.Strong.{duplicates, no_duplicates}

-- ---- sections

goes_by : (b : Bool) (p : Option Part) (f : LinkFault) → then_some (b && is_none (if b then p else None)) f ≡ None →
    b ≡ true → p ≢ None
goes_by true None f e h = cc
goes_by true (Some p) f e h = λ n. cc
goes_by false p f e h = cc

by_goes : (b : Bool) (p : Option Part) (f : LinkFault) → (b ≡ true → p ≢ None) →
    then_some (b && is_none (if b then p else None)) f ≡ None
by_goes true None f h = absurd (h refl refl)
by_goes true (Some p) f h = refl
by_goes false p f h = refl

goes : (modules : List ModuleValue) (x : NumberedObject) (k : ℕ) (s : SectionHead) →
    no_place_at modules x k s ≡ None → is_loaded_head s ≡ true → part_of modules (part x.object s.name) s ≢ None
unfolding no_place_at item_of
goes modules x k s e = goes_by (is_loaded_head s) (part_of modules (part x.object s.name) s) (fault.NoPlace x.number k) e

no_gap : (modules : List ModuleValue) (x : NumberedObject) (k : ℕ) (s : SectionHead) →
    (is_loaded_head s ≡ true → part_of modules (part x.object s.name) s ≢ None) → no_place_at modules x k s ≡ None
unfolding no_place_at item_of
no_gap modules x k s h = by_goes (is_loaded_head s) (part_of modules (part x.object s.name) s) (fault.NoPlace x.number k) h

placed : (modules : List ModuleValue) (objects : List ObjectValue) → no_place modules objects ≡ None →
    SectionsPlaced modules objects
unfolding no_place
placed modules objects e = λ n x l k s m.
    let o = get_or (numbered_objects objects) n x in
    goes modules o k (get_or o.object.sections k s) (at_none (no_place_at modules o) o.object.sections (in_none (no_place_in modules) (numbered_objects objects) e n x l) k s m)

not_placed : (modules : List ModuleValue) (objects : List ObjectValue) → SectionsPlaced modules objects →
    no_place modules objects ≡ None
unfolding no_place
not_placed modules objects h = none_in (no_place_in modules) (numbered_objects objects) (λ n x l.
    let o = get_or (numbered_objects objects) n x in none_at (no_place_at modules o) o.object.sections (λ k s m. no_gap modules o k (get_or o.object.sections k s) (h n x l k s m)))

-- ---- symbols that are used

used_at : (rs : List Relocation) (j : ℕ) (d : Relocation) → j < length rs → is_used rs (get_or rs j d).symbol ≡ true
used_at [] j d l = absurd (omega arith)
used_at (r ∷ rs) zero d l = let e : (r.symbol == r.symbol) ≡ true = grind (arith, nat_tests) in rw e refl
used_at (r ∷ rs) (suc j) d l = or_by (r.symbol == (get_or rs j d).symbol) (is_used rs (get_or rs j d).symbol) (used_at rs j d (omega arith))
  where
    or_by : (a b : Bool) → b ≡ true → (a || b) ≡ true
    or_by true b e = refl
    or_by false b e = e

abbrev User : List Relocation → ℕ → Type 0
User rs k = (j : ℕ) × ((j < length rs) × ((d : Relocation) → (get_or rs j d).symbol ≡ k))

user_by : (r : Relocation) (rs : List Relocation) (k : ℕ) (a : Bool) → (r.symbol == k) ≡ a →
    (a || is_used rs k) ≡ true → (is_used rs k ≡ true → User rs k) → User (r ∷ rs) k
user_by r rs k true q f more = (zero, (omega arith, λ d. grind (arith, nat_tests)))
user_by r rs k false q f more = let h = more f in (suc h.0, (let l = h.1.0 in omega (arith, l), h.1.1))

user_of : (rs : List Relocation) (k : ℕ) → is_used rs k ≡ true → User rs k
user_of [] k e = cc
user_of (r ∷ rs) k e = user_by r rs k (r.symbol == k) refl e (user_of rs k)

abbrev Stand : (List ℕ → Option Meaning) → NumberedObject → ℕ → Option Symbol → Type 0
Stand names x k o = IfSome o (λ s. symbol_meaning names (named_symbol x k s) ≢ None)

stand_by : (names : List ℕ → Option Meaning) (x : NumberedObject) (k : ℕ) (b : Bool) (s : Symbol) → b ≡ true →
    then_some (b && is_none (symbol_meaning names (named_symbol x k s))) (fault.Undefined x.number k) ≡ None →
    symbol_meaning names (named_symbol x k s) ≢ None
stand_by names x k true s u e = some_is (symbol_meaning names (named_symbol x k s)) (refused_not _ _ e)
stand_by names x k false s u e = cc

stands_at : (names : List ℕ → Option Meaning) (x : NumberedObject) (k : ℕ) (s : Symbol) →
    is_used x.object.relocations k ≡ true → undefined_at names x k s ≡ None →
    symbol_meaning names (named_symbol x k s) ≢ None
unfolding undefined_at
stands_at names x k s u e = stand_by names x k (is_used x.object.relocations k) s u e

used_stand_by : (names : List ℕ → Option Meaning) (x : NumberedObject) (k : ℕ) (o : Option Symbol) →
    slice_get x.object.symbols k ≡ o → is_used x.object.relocations k ≡ true → undefined_in names x ≡ None →
    Stand names x k o
used_stand_by names x k None q u e = tt
used_stand_by names x k (Some s) q u e = stands_at names x k s u (found_none (undefined_at names x) x.object.symbols e k s q)

used_stand : (names : List ℕ → Option Meaning) (objects : List ObjectValue) → undefined names objects ≡ None →
    UsedStand names objects
unfolding undefined
used_stand names objects e = λ n x l j r m.
    let o = get_or (numbered_objects objects) n x in
    let k = (get_or o.object.relocations j r).symbol in
    used_stand_by names o k (slice_get o.object.symbols k) refl (used_at o.object.relocations j r m) (in_none (undefined_in names) (numbered_objects objects) e n x l)

gap_none : (names : List ℕ → Option Meaning) (x : NumberedObject) (k : ℕ) (s : Symbol) (b : Bool) →
    is_used x.object.relocations k ≡ b → slice_get x.object.symbols k ≡ Some s →
    All (λ r. Stand names x r.symbol (slice_get x.object.symbols r.symbol)) x.object.relocations → then_some (b && is_none (symbol_meaning names (named_symbol x k s))) (fault.Undefined x.number k) ≡ None
gap_none names x k s false u g h = refl
gap_none names x k s true u g h =
    let j = user_of x.object.relocations k u in
    not_refused _ _ (is_some_by _ (subst (λ (o : Option Symbol). Stand names x k o) g
    (subst (λ (i : ℕ). Stand names x i (slice_get x.object.symbols i)) (j.1.1 some) (h j.0 some j.1.0))))
  where
    some : Relocation
    some = record { table = 0; entry = 0; target = 0; offset = 0; symbol = 0; kind = 0; addend = pos 0 }

no_gap_at : (names : List ℕ → Option Meaning) (x : NumberedObject) (k : ℕ) (s : Symbol) →
    slice_get x.object.symbols k ≡ Some s →
    All (λ r. Stand names x r.symbol (slice_get x.object.symbols r.symbol)) x.object.relocations → undefined_at names x k s ≡ None
unfolding undefined_at
no_gap_at names x k s g h = gap_none names x k s (is_used x.object.relocations k) refl g h

not_undefined : (names : List ℕ → Option Meaning) (objects : List ObjectValue) → UsedStand names objects →
    undefined names objects ≡ None
unfolding undefined
not_undefined names objects h = none_in (undefined_in names) (numbered_objects objects) (λ n x l.
    let o = get_or (numbered_objects objects) n x in
    none_found (undefined_at names o) o.object.symbols (λ k s g. no_gap_at names o k s g (h n x l)))

-- ---- vectors

vectors : (names : List ℕ → Option Meaning) (vs : List VectorValue) → no_vector names vs ≡ None → VectorsStand names vs
unfolding no_vector
vectors names vs e = λ k v l. some_is _ (refused_not _ _ (in_none (no_vector_at names) vs e k v l))

not_vectors : (names : List ℕ → Option Meaning) (vs : List VectorValue) → VectorsStand names vs →
    no_vector names vs ≡ None
unfolding no_vector
not_vectors names vs h = none_in (no_vector_at names) vs (λ k v l. not_refused _ _ (is_some_by _ (h k v l)))

-- ---- entries

not_true : (b : Bool) → not b ≡ false → b ≡ true
not_true true e = refl
not_true false e = cc

is_not : (b : Bool) → b ≡ true → not b ≡ false
is_not true e = refl
is_not false e = cc

code_by : (i : ℕ) (o : Option Part) → is_code_of i o ≡ true → o ≡ Some (code_part i)
code_by i None e = cc
code_by i (Some p) e =
    let b = and_parts (p.region == 2 + 2 * i) (p.rank == 0) e in
    let r : p.region ≡ 2 + 2 * i = let q = b.0 in grind (arith, nat_tests) in
    let k : p.rank ≡ 0 = let q = b.1 in grind (arith, nat_tests) in
    ap (λ (n : ℕ). Some (let q : Part = record { region = n; rank = p.rank } in q)) r ∙ ap (λ (n : ℕ). Some (let q : Part = record { region = 2 + 2 * i; rank = n } in q)) k

by_code : (i : ℕ) (o : Option Part) → o ≡ Some (code_part i) → is_code_of i o ≡ true
by_code i o e = ap (is_code_of i) e ∙ (let t : ((2 + 2 * i == 2 + 2 * i) && (zero == zero)) ≡ true = grind (arith, nat_tests) in t)

entry_by : (items : List Item) (i k offset : ℕ) (o : Option Item) → slice_get items k ≡ o →
    is_entry_in i offset o ≡ true → IsEntryPlace items i (Some (meaning.Place k offset))
entry_by items i k offset None q e = cc
entry_by items i k offset (Some x) q e =
    let b = and_parts (is_code_of i x.part && (offset % 2 == 0)) (nat_lt offset x.size) e in
    let a = and_parts (is_code_of i x.part) (offset % 2 == 0) b.0 in
    record {
      item = k;
      offset = offset;
      place = refl;
      section = x;
      listed = q;
      code = code_by i x.part a.0;
      even = let t = a.1 in grind (arith, nat_tests);
      within = let t = b.1 in grind (arith, nat_tests);
    }

entry_of : (items : List Item) (i : ℕ) (m : Option Meaning) → is_module_entry items i m ≡ true → IsEntryPlace items i m
entry_of items i None e = cc
entry_of items i (Some (meaning.Number n)) e = cc
entry_of items i (Some (meaning.Place k offset)) e = entry_by items i k offset (slice_get items k) refl e

three : (a b c : Bool) → a ≡ true → b ≡ true → c ≡ true → (a && b && c) ≡ true
three a b c p q r = rw (p, q, r) refl

is_entry_by : (items : List Item) (i : ℕ) (m : Option Meaning) → IsEntryPlace items i m → is_module_entry items i m ≡ true
is_entry_by items i m h =
    let x = h.section in
    let even = h.even in
    let within = h.within in
    ap (is_module_entry items i) h.place ∙ (ap (is_entry_in i h.offset) h.listed
    ∙ three (is_code_of i x.part) (h.offset % 2 == 0) (nat_lt h.offset x.size) (by_code i x.part h.code) (grind (arith, nat_tests)) (grind (arith, nat_tests)))

entries : (names : List ℕ → Option Meaning) (items : List Item) (ms : List ModuleValue) →
    elsewhere names items ms ≡ None → EntriesStand names items ms
unfolding elsewhere
entries names items ms e = λ i x g k name m.
    entry_of items i (names (get_or x.entries k name)) (not_true _ (refused_not _ _ (at_none (elsewhere_at names items i) x.entries (found_none (elsewhere_in names items) ms e i x g) k name m)))

not_elsewhere : (names : List ℕ → Option Meaning) (items : List Item) (ms : List ModuleValue) →
    EntriesStand names items ms → elsewhere names items ms ≡ None
unfolding elsewhere
not_elsewhere names items ms h = none_found (elsewhere_in names items) ms (λ i x g.
    none_at (elsewhere_at names items i) x.entries (λ k name m. not_refused _ _ (is_not _ (is_entry_by items i (names (get_or x.entries k name)) (h i x g k name m)))))

stands_if : (items : List Item) (i : ℕ) (m : Option Meaning) → IsEntryPlace items i m → is_none m ≡ false
stands_if items i m h = ap is_none h.place

no_entry_if : (names : List ℕ → Option Meaning) (items : List Item) (ms : List ModuleValue) →
    EntriesStand names items ms → no_entry names ms ≡ None
unfolding no_entry
no_entry_if names items ms h = none_found (no_entry_in names) ms (λ i x g.
    none_at (no_entry_at names i) x.entries (λ k name m. not_refused _ _ (stands_if items i (names (get_or x.entries k name)) (h i x g k name m))))

-- ---- regions

fits : (r : Region) (s : Section) (end : ℕ) → end ≤ s.end → overfull_at r s end ≡ None
fits r s end h = not_refused _ _ (let t : nat_lt s.end end ≡ false = grind (arith, nat_tests) in t)

contents : (layout : LayoutValue) (end : ℕ → ℕ) → overfull layout end ≡ None → ContentsFit layout end
unfolding overfull
contents layout end e =
    let a = both_none _ _ e in
    let b = both_none _ _ a.1 in
    let each = found_none (overfull_in end) layout.modules b.1 in
    record {
      text = not_over region.Text layout.text (end 0) a.0;
      ram = not_over region.Data layout.ram (end 1) b.0;
      module_text = λ i m g. not_over (region.ModuleText i) m.text (text_of end i m).end (both_none _ _ (each i m g)).0;
      module_ram = λ i m g. not_over (region.ModuleData i) m.ram (ram_of end i m).end (both_none _ _ (each i m g)).1;
    }

not_overfull : (layout : LayoutValue) (end : ℕ → ℕ) → ContentsFit layout end → overfull layout end ≡ None
unfolding overfull
not_overfull layout end h =
    or_none _ _ (fits region.Text layout.text (end 0) h.text)
    (or_none _ _ (fits region.Data layout.ram (end 1) h.ram)
    (none_found (overfull_in end) layout.modules (λ i m g.
    or_none _ _ (fits (region.ModuleText i) m.text (text_of end i m).end (h.module_text i m g)) (fits (region.ModuleData i) m.ram (ram_of end i m).end (h.module_ram i m g)))))

-- ---- relocations

applies_to : (address : ℕ → ℕ) (numbers : List ℕ) (x : NumberedObject) (r : Relocation) (s : SectionHead) →
    slice_get x.object.sections r.target ≡ Some s → reloc_fault address numbers x r ≡ None → AppliesTo address numbers x r (file_size s)
unfolding reloc_fault
applies_to address numbers x r s e h = applies address numbers x r s (sym (ap (option_and_then (reloc_fault_to address numbers x r)) e) ∙ h)

not_applies : (address : ℕ → ℕ) (numbers : List ℕ) (x : NumberedObject) (r : Relocation) →
    ((s : SectionHead) → slice_get x.object.sections r.target ≡ Some s → AppliesTo address numbers x r (file_size s)) → reloc_fault address numbers x r ≡ None
unfolding reloc_fault
not_applies address numbers x r h = by (slice_get x.object.sections r.target) refl
  where
    by : (found : Option SectionHead) → slice_get x.object.sections r.target ≡ found → option_and_then (reloc_fault_to address numbers x r) found ≡ None
    by None e = refl
    by (Some s) e =
        ok_none x r _ (applies_ok r.kind (field_place address x r) (symbol_sum numbers r) r.offset (replicate (file_size s) 0)
        (subst (AppliesTo address numbers x r) (sym (length-replicate (file_size s) 0)) (h s e)))

pub relocations : (l : Linking) (objects : List ObjectValue) →
    first_in (reloc_fault_in l) (numbered_objects objects) ≡ None → RelocationsApply l objects
relocations l objects e = λ n x h j r m s found.
    let o = get_or (numbered_objects objects) n x in
    applies_to l.address (numbers_in l o) o (get_or o.object.relocations j r) s found (in_none (reloc_fault l.address (numbers_in l o) o) o.object.relocations (in_none (reloc_fault_in l) (numbered_objects objects) e n x h) j r m)

not_relocations : (l : Linking) (objects : List ObjectValue) → RelocationsApply l objects →
    first_in (reloc_fault_in l) (numbered_objects objects) ≡ None
not_relocations l objects h = none_in (reloc_fault_in l) (numbered_objects objects) (λ n x m.
    let o = get_or (numbered_objects objects) n x in
    none_in (reloc_fault l.address (numbers_in l o) o) o.object.relocations (λ j r k. not_applies l.address (numbers_in l o) o (get_or o.object.relocations j r) (h n x m j r k)))

-- ---- all of them

pub can_link : (layout : LayoutValue) (objects : List ObjectValue) → link_fault_of layout objects ≡ None →
    CanLink layout objects
unfolding link_fault_of unresolved
can_link layout objects e =
    let names = stands_for objects in
    let all = both_none _ _ e in
    let a = both_none _ _ all.0 in
    let b = both_none _ _ a.1 in
    let c = both_none _ _ b.1 in
    let d = both_none _ _ c.1 in
    let f = both_none _ _ d.1 in
    let g = both_none _ _ f.1 in
    let h = both_none _ _ all.1 in
    record {
      sections_placed = placed layout.modules objects a.0;
      one_strong_each = no_duplicates (named_symbols objects) b.0;
      used_stand = used_stand names objects c.0;
      vectors_stand = vectors names layout.vectors d.0;
      entries_stand = entries names (items_of layout objects) layout.modules g.0;
      contents_fit = contents layout (region_end layout objects) h.0;
      relocations_apply = relocations (linking_of layout objects) objects (both_none _ _ h.1).0;
    }

links : (layout : LayoutValue) (objects : List ObjectValue) → CanLink layout objects →
    link_fault_of layout objects ≡ None
unfolding link_fault_of unresolved
links layout objects h =
    let names = stands_for objects in
    or_none _ _
    (or_none _ _ (not_placed layout.modules objects h.sections_placed)
    (or_none _ _ (duplicates (named_symbols objects) h.one_strong_each)
    (or_none _ _ (not_undefined names objects h.used_stand)
    (or_none _ _ (not_vectors names layout.vectors h.vectors_stand)
    (or_none _ _ (no_entry_if names (items_of layout objects) layout.modules h.entries_stand)
    (or_none _ _ (not_elsewhere names (items_of layout objects) layout.modules h.entries_stand) refl))))))
    (or_none _ _ (not_overfull layout (region_end layout objects) h.contents_fit)
    (or_none _ _ (not_relocations (linking_of layout objects) objects h.relocations_apply) refl))

pub links_exactly : LinksExactly
links_exactly layout objects = (links layout objects, can_link layout objects)
