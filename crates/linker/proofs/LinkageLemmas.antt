-- The numbers of all objects' symbols from what the symbols stand for.
use Rattle.std.proofs.Common.{◌≡◌, ◌<◌, ◌≤◌, ◌+◌, ℕ, suc, List, [], ◌∷◌, ◌++◌, map, take, length, get_or, Vec, refl, ap, sym, ◌∙◌, arith}
use Rattle.std.specs.Prelude.{Result, Ok, Err, IfOk, OnOk, None}
use Rattle.std.proofs.lemmas.List.{map-append, length-map, take_more, take_all}
use Rattle.std.specs.declared.alloc.Global.{Global}
use Rattle.elf_objects.specs.Object.{ObjectValue}
use Rattle.link_symbols.specs.Names.{stands_for}
use Rattle.link_symbols.specs.Passes.{NumberedObject, numbered_objects, numbered_objects_from}
use Rattle.link_symbols.specs.Resolved.{meanings_in, meanings_of}
use Rattle.layout_file.specs.Values.{LayoutValue}
use Rattle.linker.specs.declared.linkage.Linkage.{Linkage}
use Rattle.linker.specs.Image.{Links, linked_image}
use Rattle.linker.specs.Linkage.{listed_numbers, numbers_in_list}
use Rattle.linker.specs.Numbers.{Linking, number_or_zero, numbers_in}
use Rattle.linker.specs.Refusals.{link_fault_of}
use Rattle.linker.specs.internal.Resolved.{linking_by}
use Rattle.linker.proofs.NumberLemmas.{numbers_are}

length_numbered : (number first : ℕ) (os : List ObjectValue) → length (numbered_objects_from number first os) ≡ length os
length_numbered number first [] = refl
length_numbered number first (o ∷ os) = ap suc (length_numbered (number + 1) (first + length o.sections) os)

pub meanings_count : (os : List ObjectValue) → length (meanings_of os) ≡ length os
meanings_count os = length-map (numbered_objects os) (meanings_in (stands_for os)) ∙ length_numbered 0 0 os

-- one object more
pub numbers_more : (address : ℕ → ℕ) (os : List ObjectValue) (all new : List (Vec ℕ Global)) (v : Vec ℕ Global) (i : ℕ) → i < length os → new ≡ all ++ v ∷ [] →
    v.items ≡ map (number_or_zero address) (get_or (meanings_of os) i []) →
    listed_numbers all ≡ map (map (number_or_zero address)) (take i (meanings_of os)) →
    listed_numbers new ≡ map (map (number_or_zero address)) (take (i + 1) (meanings_of os))
numbers_more address os all new v i h pushed value e =
    let n = meanings_count os in
    ap listed_numbers pushed ∙ (map-append numbers_in_list all (v ∷ [])
    ∙ (ap (λ l. l ++ v.items ∷ []) e ∙ (ap (λ m. map (map (number_or_zero address)) (take i (meanings_of os)) ++ m ∷ []) value
    ∙ (sym (map-append (map (number_or_zero address)) (take i (meanings_of os)) (get_or (meanings_of os) i [] ∷ []))
    ∙ ap (map (map (number_or_zero address))) (sym (take_more (meanings_of os) i [] (omega (arith, n, h))))))))

of_meanings : (l : Linking) (xs : List NumberedObject) → map (map (number_or_zero l.address)) (map (meanings_in l.names) xs) ≡ map (numbers_in l) xs
of_meanings l [] = refl
of_meanings l (x ∷ xs) =
    ap (λ h. h ∷ map (map (number_or_zero l.address)) (map (meanings_in l.names) xs)) (numbers_are l x 0 x.object.symbols)
    ∙ ap (λ t. numbers_in l x ∷ t) (of_meanings l xs)

-- all of them
pub numbers_all : (addresses : List ℕ) (os : List ObjectValue) (all : List (Vec ℕ Global)) (i : ℕ) → length os ≤ i →
    listed_numbers all ≡ map (map (number_or_zero (linking_by os addresses).address)) (take i (meanings_of os)) →
    listed_numbers all ≡ map (numbers_in (linking_by os addresses)) (numbered_objects os)
numbers_all addresses os all i h e =
    let n = meanings_count os in
    e ∙ (ap (map (map (number_or_zero (linking_by os addresses).address))) (take_all i (meanings_of os) (omega (arith, n, h))) ∙ of_meanings (linking_by os addresses) (numbered_objects os))

-- an unrefused linkage holds what the objects link to
pub linkage_links : {E : Type 0} (r : Result Linkage E) (layout : LayoutValue) (os : List ObjectValue) → OnOk r (link_fault_of layout os ≡ None) → IfOk r (λ w. w.image ≡ linked_image layout os) → IfOk r (λ w. Links layout os w.image)
linkage_links (Ok w) layout os none is = record { unrefused = none; linked = is }
linkage_links (Err e) layout os none is = tt
