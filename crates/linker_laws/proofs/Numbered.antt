-- Objects by their numbers, and their sections among all items.
use Rattle.std.proofs.Common.{◌≡◌, ℕ, zero, suc, ◌+◌, ◌<◌, ◌≤◌, List, [], ◌∷◌, ◌++◌, length, length-append, append_assoc, get_or, Some, ap, sym, ◌∙◌, subst, arith}
use Rattle.std.specs.Prelude.{All, slice_get, map}
use Rattle.std.proofs.lemmas.List.{length-map}
use Rattle.std.proofs.lemmas.Option.{same_Some}
use Rattle.elf_objects.specs.Object.{ObjectValue}
use Rattle.elf_objects.specs.declared.object.SectionHead.{SectionHead}
use Rattle.layout_file.specs.Values.{ModuleValue, LayoutValue}
use Rattle.link_symbols.specs.declared.item.Item.{Item}
use Rattle.link_symbols.specs.Passes.{NumberedObject, numbered_objects, numbered_objects_from}
use Rattle.link_symbols.specs.Parts.{items_in, section_items, item_of}
use Rattle.link_symbols.specs.Commons.{commons_of, common_item}
use Rattle.link_symbols.specs.Symbols.{named_symbols}
use Rattle.link_symbols.specs.Resolved.{items_of}
use Rattle.linker.proofs.FitLemmas.{item_here}

first_from : (os : List ObjectValue) (number first k : ℕ) (y : NumberedObject) →
    slice_get (numbered_objects_from number first os) k ≡ Some y → first ≤ y.first
first_from [] number first k y e = cc
first_from (o ∷ os) number first zero y e = let q = ap (λ (x : NumberedObject). x.first) (same_Some _ _ e) in omega (arith, q)
first_from (o ∷ os) number first (suc k) y e = let h = first_from os (number + 1) (first + length o.sections) k y e in omega (arith, h)

-- the sections of later objects have higher numbers
later_from : (os : List ObjectValue) (number first n k : ℕ) (x y : NumberedObject) →
    slice_get (numbered_objects_from number first os) n ≡ Some x →
    slice_get (numbered_objects_from number first os) k ≡ Some y → n < k →
    x.first + length x.object.sections ≤ y.first
later_from [] number first n k x y e f h = cc
later_from (o ∷ os) number first n zero x y e f h = absurd (omega arith)
later_from (o ∷ os) number first zero (suc k) x y e f h =
    let q = ap (λ (z : NumberedObject). z.first + length z.object.sections) (same_Some _ _ e) in
    let g = first_from os (number + 1) (first + length o.sections) k y f in
    omega (arith, q, g)
later_from (o ∷ os) number first (suc n) (suc k) x y e f h = later_from os (number + 1) (first + length o.sections) n k x y e f (omega arith)

pub later : (os : List ObjectValue) (n k : ℕ) (x y : NumberedObject) → slice_get (numbered_objects os) n ≡ Some x →
    slice_get (numbered_objects os) k ≡ Some y → n < k → x.first + length x.object.sections ≤ y.first
later os n k x y e f h = later_from os 0 0 n k x y e f h

-- what all objects are a numbered one is
one_from : (P : ObjectValue → Type 0) (os : List ObjectValue) (number first n : ℕ) (x : NumberedObject) → All P os →
    slice_get (numbered_objects_from number first os) n ≡ Some x → P x.object
one_from P [] number first n x h e = cc
one_from P (o ∷ os) number first zero x h e = subst (λ (y : NumberedObject). P y.object) (same_Some _ _ e) (h 0 o (omega arith))
one_from P (o ∷ os) number first (suc n) x h e = one_from P os (number + 1) (first + length o.sections) n x (λ k d l. h (suc k) d (omega arith)) e

pub one_of : (P : ObjectValue → Type 0) (os : List ObjectValue) (n : ℕ) (x : NumberedObject) → All P os →
    slice_get (numbered_objects os) n ≡ Some x → P x.object
one_of P os n x h e = one_from P os 0 0 n x h e

item_from : (modules : List ModuleValue) (os : List ObjectValue) (number : ℕ) (front commons : List Item) (n k : ℕ) (x : NumberedObject) (d : SectionHead) →
    slice_get (numbered_objects_from number (length front) os) n ≡ Some x → k < length x.object.sections →
    slice_get (front ++ (section_items modules os ++ commons)) (x.first + k) ≡ Some (item_of modules x.object (get_or x.object.sections k d))
item_from modules [] number front commons n k x d e l = cc
item_from modules (o ∷ os) number front commons zero k x d e l =
    let same = same_Some _ _ e in
    let b = subst (λ (y : NumberedObject). k < length y.object.sections) (sym same) l in
    let q = append_assoc (items_in modules o) (section_items modules os) commons in
    ap (λ (r : List Item). slice_get (front ++ r) (x.first + k)) q
    ∙ (ap (λ (y : NumberedObject). slice_get (front ++ (items_in modules o ++ (section_items modules os ++ commons))) (y.first + k)) (sym same)
    ∙ (item_here modules o front (section_items modules os ++ commons) k d b
    ∙ ap (λ (y : NumberedObject). Some (item_of modules y.object (get_or y.object.sections k d))) same))
item_from modules (o ∷ os) number front commons (suc n) k x d e l =
    let c : length (items_in modules o) ≡ length o.sections = length-map o.sections _ in
    let size : length (front ++ items_in modules o) ≡ length front + length o.sections = length-append front (items_in modules o) ∙ ap (λ (m : ℕ). length front + m) c in
    let q = append_assoc (items_in modules o) (section_items modules os) commons in
    ap (λ (r : List Item). slice_get (front ++ r) (x.first + k)) q
    ∙ (ap (λ (r : List Item). slice_get r (x.first + k)) (sym (append_assoc front (items_in modules o) (section_items modules os ++ commons)))
    ∙ item_from modules os (number + 1) (front ++ items_in modules o) commons n k x d (ap (λ (m : ℕ). slice_get (numbered_objects_from (number + 1) m os) n) size ∙ e) l)

-- the item that a section of an object is
pub section_item : (layout : LayoutValue) (os : List ObjectValue) (n k : ℕ) (x : NumberedObject) (d : SectionHead) →
    slice_get (numbered_objects os) n ≡ Some x → k < length x.object.sections →
    slice_get (items_of layout os) (x.first + k) ≡ Some (item_of layout.modules x.object (get_or x.object.sections k d))
section_item layout os n k x d e l = item_from layout.modules os 0 [] (map common_item (commons_of (named_symbols os))) n k x d e l
