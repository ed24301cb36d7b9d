-- What the symbols of objects stand for, found once for all steps.
use Rattle.std.proofs.Common.{◌≡◌, ℕ, suc, ◌+◌, ◌<◌, List, [], ◌∷◌, ◌++◌, drop, length, get_or, map, Vec, Option, Some, None, Bool, true, false, refl, ap, sym, ◌∙◌, append_assoc}
use Rattle.std.proofs.lemmas.List.{map-append, length-map, get_or-map}
use Rattle.std.specs.declared.alloc.Global.{Global}
use Rattle.elf_objects.specs.Object.{ObjectValue}
use Rattle.elf_objects.specs.declared.object.Relocation.{Relocation}
use Rattle.elf_objects.specs.declared.object.Symbol.{Symbol}
use Rattle.link_symbols.specs.declared.symbol.Meaning.{Meaning}
use Rattle.link_symbols.specs.Passes.{first_at, map_at, NumberedObject, numbered_objects_from}
use Rattle.std.specs.Option.{option_or}
use Rattle.link_symbols.specs.Resolved.{meaning_at, meanings_in, meanings_of}
use Rattle.link_symbols.specs.Names.{stands_for}
use Rattle.link_symbols.specs.internal.Meanings.{listed_meanings, all_stand, gap_if, gap_at}
use Rattle.link_symbols.specs.Refusals.{is_used, undefined_at}
use Rattle.link_symbols.proofs.Steps.{numbered_step}

-- ---- gaps

gap_some : (used : Bool) (number k : ℕ) (m : Meaning) → gap_if used number k (Some m) ≡ None
gap_some true number k m = refl
gap_some false number k m = refl

-- where all stand for something, there is none
pub no_gaps : (number : ℕ) (relocations : List Relocation) (i : ℕ) (ms : List (Option Meaning)) → all_stand ms ≡ true → first_at (gap_at number relocations) i ms ≡ None
no_gaps number relocations i [] e = refl
no_gaps number relocations i (None ∷ ms) e = cc
no_gaps number relocations i (Some m ∷ ms) e =
    ap (λ o. option_or o (first_at (gap_at number relocations) (i + 1) ms)) (gap_some (is_used relocations i) number i m) ∙ no_gaps number relocations (i + 1) ms e

pub gaps_are : (names : List ℕ → Option Meaning) (x : NumberedObject) (i : ℕ) (ss : List Symbol) →
    first_at (gap_at x.number x.object.relocations) i (map_at (meaning_at names x) i ss) ≡ first_at (undefined_at names x) i ss
unfolding undefined_at
gaps_are names x i [] = refl
gaps_are names x i (s ∷ ss) = ap (option_or (undefined_at names x i s)) (gaps_are names x (i + 1) ss)

pub length_at : {X A : Type 0} (f : ℕ → X → A) (i : ℕ) (xs : List X) → length (map_at f i xs) ≡ length xs
length_at f i [] = refl
length_at f i (x ∷ xs) = ap suc (length_at f (i + 1) xs)

-- ---- while they are found

pub found_more : (names : List ℕ → Option Meaning) (vs new : List (Vec (Option Meaning) Global)) (v : Vec (Option Meaning) Global) (os : List ObjectValue) (all : List (List (Option Meaning))) (i first n : ℕ) (o : ObjectValue) → i < length os → o ≡ get_or os i o → n ≡ length o.sections →
    new ≡ vs ++ v ∷ [] → v.items ≡ meanings_in names (record { number = i; first = first; object = o }) →
    map listed_meanings vs ++ map (meanings_in names) (numbered_objects_from i first (drop i os)) ≡ all →
    map listed_meanings new ++ map (meanings_in names) (numbered_objects_from (i + 1) (first + n) (drop (i + 1) os)) ≡ all
found_more names vs new v os all i first n o h is same pushed value e =
    let rest = map (meanings_in names) (numbered_objects_from (i + 1) (first + length o.sections) (drop (i + 1) os)) in
    ap (λ k. map listed_meanings new ++ map (meanings_in names) (numbered_objects_from (i + 1) (first + k) (drop (i + 1) os))) same
    ∙ (ap (λ l. map listed_meanings l ++ rest) pushed
    ∙ (ap (λ l. l ++ rest) (map-append listed_meanings vs (v ∷ []))
    ∙ (append_assoc (map listed_meanings vs) (v.items ∷ []) rest
    ∙ (ap (λ m. map listed_meanings vs ++ (m ∷ rest)) value
    ∙ (ap (λ l. map listed_meanings vs ++ map (meanings_in names) l) (sym (numbered_step os i first o h is)) ∙ e)))))

-- ---- the meanings of one object

length_numbered : (number first : ℕ) (os : List ObjectValue) → length (numbered_objects_from number first os) ≡ length os
length_numbered number first [] = refl
length_numbered number first (o ∷ os) = ap suc (length_numbered (number + 1) (first + length o.sections) os)

pub meanings_count : (vs : List (Vec (Option Meaning) Global)) (os : List ObjectValue) → map listed_meanings vs ≡ meanings_of os → length vs ≡ length os
meanings_count vs os all =
    sym (length-map vs listed_meanings) ∙ (ap length all ∙ (length-map (numbered_objects_from 0 0 os) (meanings_in (stands_for os)) ∙ length_numbered 0 0 os))

pub meanings_at : (vs : List (Vec (Option Meaning) Global)) (os : List ObjectValue) (k : ℕ) (d : Vec (Option Meaning) Global) → k < length vs → map listed_meanings vs ≡ meanings_of os
    → (get_or vs k d).items ≡ get_or (meanings_of os) k []
meanings_at vs os k d within all = sym (get_or-map listed_meanings vs k d [] within) ∙ ap (λ l. get_or l k []) all
