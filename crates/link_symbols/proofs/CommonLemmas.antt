-- Commons joined one after another.
use Rattle.std.proofs.Common.{◌≡◌, ℕ, ◌+◌, ◌<◌, List, [], ◌∷◌, ◌++◌, is_some, map, length, Option, Some, None, Bool, true, false, refl, ap, sym, ◌∙◌, arith, max, subst, append_assoc, length-append}
use Rattle.std.specs.Prelude.{bytes_eq, fold, slice_get}
use Rattle.std.proofs.Math.ListN.{set}
use Rattle.std.proofs.Math.Seq.{set-append_seam}
use Rattle.std.proofs.lemmas.List.{length-map, map-append}
use Rattle.std.proofs.lemmas.Option.{same_Some, slice_get_within}
use Rattle.link_symbols.specs.declared.item.Item.{Item}
use Rattle.link_symbols.specs.declared.names.Names.{Names}
use Rattle.link_symbols.specs.Passes.{some_if}
use Rattle.std.specs.Option.{option_or}
use Rattle.link_symbols.specs.Commons.{Common, commons_with, common_at, common_item, with_symbol}
use Rattle.link_symbols.specs.internal.Values.{joined_item}
use Rattle.link_symbols.specs.internal.Maps.{HoldsCommons, name_entry, Notes}
use Rattle.link_symbols.specs.declared.names.Definition.{Definition}
use Rattle.link_symbols.specs.Symbols.{NamedValue}
use Rattle.mod_layout.proofs.FirstLemmas.{or_else_none, or_else_assoc}

joined_same : (d : Common) (ds : List Common) (c : Common) → bytes_eq d.name c.name ≡ true →
    commons_with (d ∷ ds) c ≡ record { name = d.name; size = max d.size c.size; align = max d.align c.align } ∷ ds
unfolding commons_with
joined_same d ds c q = rw q refl

joined_other : (d : Common) (ds : List Common) (c : Common) → bytes_eq d.name c.name ≡ false → commons_with (d ∷ ds) c ≡ d ∷ commons_with ds c
unfolding commons_with
joined_other d ds c q = rw q refl

some_none : {A B : Type 0} (a : A) → Some a ≡ None → B
some_none a e = cc

-- a common of a name that none of these has comes last
joined_new_by : (n : ℕ) (d : Common) (ds : List Common) (c : Common) (b : Bool) → bytes_eq d.name c.name ≡ b →
    option_or (some_if b (Some n)) (common_at (n + 1) ds c.name) ≡ None →
    (common_at (n + 1) ds c.name ≡ None → commons_with ds c ≡ ds ++ c ∷ []) → commons_with (d ∷ ds) c ≡ d ∷ (ds ++ c ∷ [])
joined_new_by n d ds c true q e ih = some_none n e
joined_new_by n d ds c false q e ih = joined_other d ds c q ∙ ap (λ l. d ∷ l) (ih e)

pub joined_new : (n : ℕ) (cs : List Common) (c : Common) → common_at n cs c.name ≡ None → commons_with cs c ≡ cs ++ c ∷ []
unfolding commons_with
joined_new n [] c e = refl
joined_new n (d ∷ ds) c e = joined_new_by n d ds c (bytes_eq d.name c.name) refl e (joined_new (n + 1) ds c)

pub common_at_append : (n : ℕ) (cs : List Common) (c : Common) (q : List ℕ) →
    common_at n (cs ++ c ∷ []) q ≡ option_or (common_at n cs q) (some_if (bytes_eq c.name q) (Some (n + length cs)))
common_at_append n [] c q = or_else_none (some_if (bytes_eq c.name q) (Some n)) ∙ ap (λ k. some_if (bytes_eq c.name q) (Some k)) (omega arith)
common_at_append n (d ∷ ds) c q =
    ap (option_or (some_if (bytes_eq d.name q) (Some n))) (common_at_append (n + 1) ds c q ∙ ap (λ k. option_or (common_at (n + 1) ds q) (some_if (bytes_eq c.name q) (Some k))) (omega arith))
    ∙ sym (or_else_assoc (some_if (bytes_eq d.name q) (Some n)) (common_at (n + 1) ds q) (some_if (bytes_eq c.name q) (Some (n + length (d ∷ ds)))))

-- a common of the name of the item with this number is joined with it
pub record Joins (n : ℕ) (cs : List Common) (c : Common) (number : ℕ) (front : List Item) : Type 0 where
  pub item : Item
  pub found : slice_get (front ++ map common_item cs) number ≡ Some item
  pub items : front ++ map common_item (commons_with cs c) ≡ set (front ++ map common_item cs) number (joined_item item c.size c.align)
  pub numbers : (q : List ℕ) → common_at n (commons_with cs c) q ≡ common_at n cs q

found_seam : (front : List Item) (x : Item) (rest : List Item) → slice_get (front ++ x ∷ rest) (length front) ≡ Some x
found_seam [] x rest = refl
found_seam (y ∷ ys) x rest = found_seam ys x rest

joins_same : (n : ℕ) (d : Common) (ds : List Common) (c : Common) (front : List Item) → bytes_eq d.name c.name ≡ true → length front ≡ n → Joins n (d ∷ ds) c n front
joins_same n d ds c front q e = record {
  item = common_item d;
  found = subst (λ k. slice_get (front ++ common_item d ∷ map common_item ds) k ≡ Some (common_item d)) e (found_seam front (common_item d) (map common_item ds));
  items = ap (λ l. front ++ map common_item l) (joined_same d ds c q)
      ∙ (sym (set-append_seam front (common_item d) (map common_item ds) (joined_item (common_item d) c.size c.align))
      ∙ ap (λ k. set (front ++ common_item d ∷ map common_item ds) k (joined_item (common_item d) c.size c.align)) e);
  numbers = λ p. ap (λ l. common_at n l p) (joined_same d ds c q);
}

joins_later : (n number : ℕ) (d : Common) (ds : List Common) (c : Common) (front : List Item) → bytes_eq d.name c.name ≡ false →
    Joins (n + 1) ds c number (front ++ common_item d ∷ []) → Joins n (d ∷ ds) c number front
joins_later n number d ds c front q j =
    let same = append_assoc front (common_item d ∷ []) (map common_item ds) in
    record {
      item = j.item;
      found = ap (λ l. slice_get l number) (sym same) ∙ j.found;
      items = ap (λ l. front ++ map common_item l) (joined_other d ds c q)
          ∙ (sym (append_assoc front (common_item d ∷ []) (map common_item (commons_with ds c)))
          ∙ (j.items ∙ ap (λ l. set l number (joined_item j.item c.size c.align)) same));
      numbers = λ p. ap (λ l. common_at n l p) (joined_other d ds c q) ∙ ap (option_or (some_if (bytes_eq d.name p) (Some n))) (j.numbers p);
    }

joined_known_by : (n number : ℕ) (d : Common) (ds : List Common) (c : Common) (front : List Item) (b : Bool) → bytes_eq d.name c.name ≡ b → length front ≡ n →
    option_or (some_if b (Some n)) (common_at (n + 1) ds c.name) ≡ Some number →
    (common_at (n + 1) ds c.name ≡ Some number → Joins (n + 1) ds c number (front ++ common_item d ∷ [])) → Joins n (d ∷ ds) c number front
joined_known_by n number d ds c front true q e k ih = subst (λ m. Joins n (d ∷ ds) c m front) (same_Some n number k) (joins_same n d ds c front q e)
joined_known_by n number d ds c front false q e k ih = joins_later n number d ds c front q (ih k)

pub joined_known : (n number : ℕ) (cs : List Common) (c : Common) (front : List Item) → length front ≡ n → common_at n cs c.name ≡ Some number → Joins n cs c number front
joined_known n number [] c front e k = some_none number (sym k)
joined_known n number (d ∷ ds) c front e k =
    joined_known_by n number d ds c front (bytes_eq d.name c.name) refl e k
    (joined_known (n + 1) number ds c (front ++ common_item d ∷ []) (omega (arith, length-append front (common_item d ∷ []))))

-- ---- what the maps and items hold

pub known_within : (names : Names) (items sections : List Item) (cs : List Common) (c : Common) (number : ℕ) → HoldsCommons names items sections cs →
    name_entry names.commons c.name ≡ Some number → number < length items
known_within names items sections cs c number h e =
    let j = joined_known (length sections) number cs c sections refl (sym (h.numbers c.name) ∙ e) in
    slice_get_within items number j.item (ap (λ l. slice_get l number) h.items_are ∙ j.found)

pub holds_known : (old new : Names) (items after sections : List Item) (cs : List Common) (c : Common) (number : ℕ) → HoldsCommons old items sections cs →
    name_entry old.commons c.name ≡ Some number → new.commons ≡ old.commons →
    ((x : Item) → slice_get items number ≡ Some x → after ≡ set items number (joined_item x c.size c.align)) → HoldsCommons new after sections (commons_with cs c)
holds_known old new items after sections cs c number h e same made =
    let j = joined_known (length sections) number cs c sections refl (sym (h.numbers c.name) ∙ e) in
    record {
      items_are = made j.item (ap (λ l. slice_get l number) h.items_are ∙ j.found) ∙ (ap (λ l. set l number (joined_item j.item c.size c.align)) h.items_are ∙ sym j.items);
      numbers = λ q. ap (λ m. name_entry m q) same ∙ (h.numbers q ∙ sym (j.numbers q));
    }

pub holds_new : (old new : Names) (items after sections : List Item) (cs : List Common) (c : Common) → HoldsCommons old items sections cs →
    name_entry old.commons c.name ≡ None → Notes old.commons new.commons c.name (length items) → after ≡ items ++ common_item c ∷ [] →
    HoldsCommons new after sections (commons_with cs c)
holds_new old new items after sections cs c h e noted made =
    let n : commons_with cs c ≡ cs ++ c ∷ [] = joined_new (length sections) cs c (sym (h.numbers c.name) ∙ e) in
    let size : length items ≡ length sections + length cs = omega (arith, ap length h.items_are, length-append sections (map common_item cs), length-map cs common_item) in
    record {
      items_are = made ∙ (ap (λ l. l ++ common_item c ∷ []) h.items_are ∙ (append_assoc sections (map common_item cs) (common_item c ∷ []) ∙ (ap (λ l. sections ++ l) (sym (map-append common_item cs (c ∷ []))) ∙ ap (λ l. sections ++ map common_item l) (sym n))));
      numbers = λ q. noted q ∙ (ap (λ o. option_or o (some_if (bytes_eq c.name q) (Some (length items)))) (h.numbers q)
          ∙ (ap (λ k. option_or (common_at (length sections) cs q) (some_if (bytes_eq c.name q) (Some k))) size
          ∙ (sym (common_at_append (length sections) cs c q) ∙ ap (λ l. common_at (length sections) l q) (sym n))));
    }

pub none_of : {A : Type 0} (o : Option A) → false ≡ is_some o → o ≡ None
none_of None e = refl
none_of (Some a) e = cc

-- the commons among some of these symbols are noted, and the others are still to come
pub record Gathered (names : Names) (items sections : List Item) (strong : List ℕ → Option Definition) (cs : List Common) (symbols rest : List NamedValue) : Type 0 where
  pub now : List Common
  pub holds : HoldsCommons names items sections now
  pub same : fold (with_symbol strong) cs symbols ≡ fold (with_symbol strong) now rest
