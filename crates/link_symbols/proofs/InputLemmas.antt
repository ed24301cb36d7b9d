-- What the code's items and names are.
use Rattle.std.proofs.Common.{◌≡◌, ℕ, ◌+◌, ◌<◌, List, [], ◌∷◌, ◌++◌, map, length, length-append, get_or, Option, ap, ◌∙◌, arith, fold, subst}
use Rattle.std.proofs.Math.ListN.{get_or-map}
use Rattle.std.proofs.lemmas.List.{length-map}
use Rattle.elf_objects.specs.Object.{ObjectValue}
use Rattle.layout_file.specs.declared.layout.Layout.{Layout}
use Rattle.layout_file.specs.declared.parts.ModuleSpec.{ModuleSpec}
use Rattle.layout_file.specs.Sound.{IsModuleValue}
use Rattle.layout_file.specs.Values.{ModuleValue, LayoutValue}
use Rattle.layout_file.specs.Views.{module_value}
use Rattle.link_symbols.specs.declared.item.Item.{Item}
use Rattle.link_symbols.specs.declared.names.Names.{Names}
use Rattle.link_symbols.specs.declared.names.Definition.{Definition}
use Rattle.link_symbols.specs.Parts.{items_in, section_items}
use Rattle.link_symbols.specs.Commons.{with_symbol, common_item, common_at}
use Rattle.link_symbols.specs.Symbols.{named_symbols}
use Rattle.link_symbols.specs.Definitions.{strong_of, weak_of}
use Rattle.link_symbols.specs.Names.{stands_by, stands_for, count_sections}
use Rattle.link_symbols.specs.Resolved.{items_of}
use Rattle.link_symbols.specs.internal.Founds.{CommonsNumbered}
use Rattle.link_symbols.specs.internal.Layouts.{AreShort}
use Rattle.link_symbols.specs.internal.Maps.{name_entry, meaning_of_name, HoldsNames, HoldsCommons}
use Rattle.link_symbols.proofs.OrderLemmas.{ext}

pub module_kept : (l : Layout) (k : ℕ) (d : ModuleSpec) → k < length l.modules.items → IsModuleValue l.room (module_value (get_or l.modules.items k d))
module_kept l k d h =
    let n : length (map module_value l.modules.items) ≡ length l.modules.items = length-map l.modules.items module_value in
    subst (λ (m : ModuleValue). IsModuleValue l.room m) (get_or-map module_value l.modules.items k d) (l.sound.modules_kept k (module_value d) (omega (arith, n)))

pub short_names : (l : Layout) → AreShort l.modules.items
short_names l = λ k d h. (module_kept l k d h).short_name

pub length_items : (modules : List ModuleValue) (os : List ObjectValue) (n : ℕ) → n + length (section_items modules os) ≡ fold (λ a (o : ObjectValue). a + length o.sections) n os
length_items modules [] n = omega arith
length_items modules (o ∷ os) n =
    let a = length-append (items_in modules o) (section_items modules os) in
    let b = length_items modules os (n + length o.sections) in
    let c : length (items_in modules o) ≡ length o.sections = length-map o.sections _ in
    omega (arith, a, b, c)

pub count_items : (modules : List ModuleValue) (os : List ObjectValue) → length (section_items modules os) ≡ count_sections os
count_items modules os = let e = length_items modules os 0 in omega (arith, e)

-- what the code's items and names are
pub items_are : (layout : LayoutValue) (os : List ObjectValue) (names : Names) (before after : List Item) → before ≡ section_items layout.modules os → HoldsNames names (named_symbols os) →
    HoldsCommons names after before (fold (with_symbol (name_entry names.strong)) [] (named_symbols os)) → after ≡ items_of layout os
items_are layout os names before after b h c =
    let e : name_entry names.strong ≡ strong_of (named_symbols os) = ext (name_entry names.strong) (strong_of (named_symbols os)) h.strong in
    c.items_are ∙ (ap (λ (l : List Item). l ++ map common_item (fold (with_symbol (name_entry names.strong)) [] (named_symbols os))) b
    ∙ ap (λ (f : List ℕ → Option Definition). section_items layout.modules os ++ map common_item (fold (with_symbol f) [] (named_symbols os))) e)

pub names_are : (layout : LayoutValue) (os : List ObjectValue) (names : Names) (before after : List Item) → before ≡ section_items layout.modules os → HoldsNames names (named_symbols os) →
    HoldsCommons names after before (fold (with_symbol (name_entry names.strong)) [] (named_symbols os)) → (q : List ℕ) → meaning_of_name names q ≡ stands_for os q
unfolding stands_for
names_are layout os names before after b h c q =
    let e : name_entry names.strong ≡ strong_of (named_symbols os) = ext (name_entry names.strong) (strong_of (named_symbols os)) h.strong in
    let n : length before ≡ count_sections os = ap length b ∙ count_items layout.modules os in
    ap (λ o. stands_by o (name_entry names.commons q) (name_entry names.weak q)) (h.strong q)
    ∙ (ap (λ o. stands_by (strong_of (named_symbols os) q) (name_entry names.commons q) o) (h.weak q)
    ∙ (ap (λ o. stands_by (strong_of (named_symbols os) q) o (weak_of (named_symbols os) q)) (c.numbers q)
    ∙ (ap (λ k. stands_by (strong_of (named_symbols os) q) (common_at k (fold (with_symbol (name_entry names.strong)) [] (named_symbols os)) q) (weak_of (named_symbols os) q)) n
    ∙ ap (λ (f : List ℕ → Option Definition). stands_by (strong_of (named_symbols os) q) (common_at (count_sections os) (fold (with_symbol f) [] (named_symbols os)) q) (weak_of (named_symbols os) q)) e)))

pub numbered_are : (layout : LayoutValue) (os : List ObjectValue) (names : Names) (before after : List Item) → before ≡ section_items layout.modules os → HoldsNames names (named_symbols os) →
    HoldsCommons names after before (fold (with_symbol (name_entry names.strong)) [] (named_symbols os)) → CommonsNumbered names os
numbered_are layout os names before after b h c =
    let e : name_entry names.strong ≡ strong_of (named_symbols os) = ext (name_entry names.strong) (strong_of (named_symbols os)) h.strong in
    let n : length before ≡ count_sections os = ap length b ∙ count_items layout.modules os in
    record {
      strong = h.strong;
      commons = λ q. c.numbers q ∙ (ap (λ k. common_at k (fold (with_symbol (name_entry names.strong)) [] (named_symbols os)) q) n
          ∙ ap (λ (f : List ℕ → Option Definition). common_at (count_sections os) (fold (with_symbol f) [] (named_symbols os)) q) e);
    }
