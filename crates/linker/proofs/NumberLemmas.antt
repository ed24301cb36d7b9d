-- The numbers of symbols by what they stand for, and the meanings of one object of all.
use Rattle.std.proofs.Common.{◌≡◌, ℕ, zero, suc, ◌+◌, ◌<◌, List, [], ◌∷◌, drop, length, get_or, map, Option, refl, ap, sym, ◌∙◌, arith, subst}
use Rattle.elf_objects.specs.Object.{ObjectValue}
use Rattle.elf_objects.specs.declared.object.Symbol.{Symbol}
use Rattle.link_symbols.specs.declared.symbol.Meaning.{Meaning}
use Rattle.link_symbols.specs.Passes.{map_at, NumberedObject, numbered_objects_from}
use Rattle.link_symbols.specs.Resolved.{meaning_at, meanings_in}
use Rattle.link_symbols.proofs.Steps.{numbered_step}
use Rattle.linker.specs.Numbers.{Linking, number_or_zero, linked_number, numbers_in}

pub numbers_are : (l : Linking) (x : NumberedObject) (i : ℕ) (ss : List Symbol) → map (number_or_zero l.address) (map_at (meaning_at l.names x) i ss) ≡ map_at (linked_number l x) i ss
numbers_are l x i [] = refl
numbers_are l x i (s ∷ ss) = ap (λ t. linked_number l x i s ∷ t) (numbers_are l x (i + 1) ss)

-- ---- one object of all

first_is : {A : Type 0} (xs : List A) (i : ℕ) (x : A) (rest : List A) (d : A) → drop i xs ≡ x ∷ rest → (get_or xs i d ≡ x) × (drop (i + 1) xs ≡ rest)
first_is [] zero x rest d e = cc
first_is [] (suc i) x rest d e = cc
first_is (y ∷ xs) zero x rest d e = (cc, cc)
first_is (y ∷ xs) (suc i) x rest d e =
    let r = first_is xs i x rest d e in
    let n : suc (i + 1) ≡ suc i + 1 = omega arith in
    (r.0, subst (λ (k : ℕ). drop k (y ∷ xs) ≡ rest) n r.1)

here : (names : List ℕ → Option Meaning) (ms : List (List (Option Meaning))) (os : List ObjectValue) (i first : ℕ) (o : ObjectValue) → i < length os → o ≡ get_or os i o →
    drop i ms ≡ map (meanings_in names) (numbered_objects_from i first (drop i os)) →
    drop i ms ≡ meanings_in names (record { number = i; first = first; object = o }) ∷ map (meanings_in names) (numbered_objects_from (i + 1) (first + length o.sections) (drop (i + 1) os))
here names ms os i first o h is e = e ∙ ap (map (meanings_in names)) (numbered_step os i first o h is)

pub meanings_next : (names : List ℕ → Option Meaning) (ms : List (List (Option Meaning))) (os : List ObjectValue) (i first n : ℕ) (o : ObjectValue) → i < length os → o ≡ get_or os i o → n ≡ length o.sections →
    drop i ms ≡ map (meanings_in names) (numbered_objects_from i first (drop i os)) →
    drop (i + 1) ms ≡ map (meanings_in names) (numbered_objects_from (i + 1) (first + n) (drop (i + 1) os))
meanings_next names ms os i first n o h is same e =
    (first_is ms i _ _ [] (here names ms os i first o h is e)).1
    ∙ ap (λ k. map (meanings_in names) (numbered_objects_from (i + 1) (first + k) (drop (i + 1) os))) (sym same)

pub numbers_here : (l : Linking) (ms : List (List (Option Meaning))) (os : List ObjectValue) (i first : ℕ) (o : ObjectValue) → i < length os → o ≡ get_or os i o →
    drop i ms ≡ map (meanings_in l.names) (numbered_objects_from i first (drop i os)) →
    map (number_or_zero l.address) (get_or ms i []) ≡ numbers_in l (record { number = i; first = first; object = o })
numbers_here l ms os i first o h is e =
    ap (map (number_or_zero l.address)) (first_is ms i _ _ [] (here l.names ms os i first o h is e)).0 ∙ numbers_are l (record { number = i; first = first; object = o }) 0 o.symbols
