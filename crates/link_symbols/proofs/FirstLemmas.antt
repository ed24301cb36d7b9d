-- First weak definitions that were kept.
use Rattle.std.proofs.Common.{◌≡◌, ℕ, zero, suc, ◌+◌, ◌<◌, ◌≤◌, List, [], ◌∷◌, ◌++◌, drop, take, length, get_or, Option, None, refl, sym, ap, subst, arith}
use Rattle.std.specs.List.{flat_map}
use Rattle.elf_objects.specs.Object.{ObjectValue}
use Rattle.elf_objects.specs.declared.object.Symbol.{Symbol}
use Rattle.link_symbols.specs.declared.symbol.Meaning.{Meaning}
use Rattle.link_symbols.specs.Passes.{map_at, NumberedObject, numbered_objects_from}
use Rattle.link_symbols.specs.Symbols.{NamedValue, named_symbol, named_symbols_in}
use Rattle.link_symbols.specs.internal.Maps.{IsFirst, AreFirsts}
use Rattle.link_symbols.proofs.Steps.{numbered_step}
use Rattle.link_symbols.proofs.MeaningLemmas.{length_at}

firsts_length : (weak : List ℕ → Option Meaning) (ss : List NamedValue) (os : List (Option Meaning)) → AreFirsts weak ss os → length ss ≡ length os
firsts_length weak [] [] f = refl
firsts_length weak [] (o ∷ os) f = absurd f
firsts_length weak (s ∷ ss) [] f = absurd f
firsts_length weak (s ∷ ss) (o ∷ os) f = ap suc (firsts_length weak ss os f.1)

first_from : (weak : List ℕ → Option Meaning) (f : ℕ → Symbol → NamedValue) (xs : List Symbol) (i k : ℕ) (d : Symbol) (os : List (Option Meaning)) → k < length xs →
    AreFirsts weak (map_at f i xs) os → IsFirst weak (f (i + k) (get_or xs k d)) (get_or os k None)
first_from weak f [] i k d os h a = absurd (omega (arith, h))
first_from weak f (x ∷ xs) i k d [] h a = absurd a
first_from weak f (x ∷ xs) i zero d (o ∷ os) h a =
    let e : i ≡ i + zero = omega arith in
    subst (λ (n : ℕ). IsFirst weak (f n x) o) e a.0
first_from weak f (x ∷ xs) i (suc k) d (o ∷ os) h a =
    let e : i + 1 + k ≡ i + suc k = omega arith in
    subst (λ (n : ℕ). IsFirst weak (f n (get_or xs k d)) (get_or os k None)) e (first_from weak f xs (i + 1) k d os (omega (arith, h)) a.1)

pub firsts_within : (weak : List ℕ → Option Meaning) (f : ℕ → Symbol → NamedValue) (xs ys : List Symbol) (k : ℕ) (os : List (Option Meaning)) → ys ≡ xs → k < length ys →
    AreFirsts weak (map_at f 0 xs) os → k < length os
firsts_within weak f xs ys k os same h a = omega (arith, h, ap length same, length_at f 0 xs, firsts_length weak (map_at f 0 xs) os a)

-- of each symbol of an object
pub first_here : (weak : List ℕ → Option Meaning) (f : ℕ → Symbol → NamedValue) (xs ys : List Symbol) (k : ℕ) (d : Symbol) (os : List (Option Meaning)) → ys ≡ xs → k < length ys →
    AreFirsts weak (map_at f 0 xs) os → IsFirst weak (f k (get_or ys k d)) (get_or os k None)
first_here weak f xs ys k d os same h a =
    let b = subst (λ (l : List Symbol). AreFirsts weak (map_at f 0 l) os) (sym same) a in
    let z : 0 + k ≡ k = omega arith in
    subst (λ (n : ℕ). IsFirst weak (f n (get_or ys k d)) (get_or os k None)) z (first_from weak f ys 0 k d os h b)

firsts_split : (weak : List ℕ → Option Meaning) (xs ys : List NamedValue) (os : List (Option Meaning)) → AreFirsts weak (xs ++ ys) os →
    AreFirsts weak xs (take (length xs) os) × (AreFirsts weak ys (drop (length xs) os) × (length xs ≤ length os))
firsts_split weak [] ys os f = (tt, (f, omega arith))
firsts_split weak (x ∷ xs) ys [] f = absurd f
firsts_split weak (x ∷ xs) ys (o ∷ os) f =
    let r = firsts_split weak xs ys os f.1 in
    ((f.0, r.0), (r.1.0, omega (arith, r.1.1)))

-- an object's, those of the later ones, and that there are so many
pub firsts_at : (weak : List ℕ → Option Meaning) (os : List ObjectValue) (i first : ℕ) (o : ObjectValue) (fs : List (Option Meaning)) → i < length os → o ≡ get_or os i o →
    AreFirsts weak (flat_map named_symbols_in (numbered_objects_from i first (drop i os))) fs →
    AreFirsts weak (named_symbols_in (record { number = i; first = first; object = o })) (take (length o.symbols) fs)
    × (AreFirsts weak (flat_map named_symbols_in (numbered_objects_from (i + 1) (first + length o.sections) (drop (i + 1) os))) (drop (length o.symbols) fs) × (length o.symbols ≤ length fs))
firsts_at weak os i first o fs h is f =
    let x : NumberedObject = record { number = i; first = first; object = o } in
    let later = flat_map named_symbols_in (numbered_objects_from (i + 1) (first + length o.sections) (drop (i + 1) os)) in
    subst (λ (n : ℕ). AreFirsts weak (named_symbols_in x) (take n fs) × (AreFirsts weak later (drop n fs) × (n ≤ length fs))) (length_at (named_symbol x) 0 o.symbols)
    (firsts_split weak (named_symbols_in x) later fs (subst (λ (xs : List NumberedObject). AreFirsts weak (flat_map named_symbols_in xs) fs) (numbered_step os i first o h is) f))
