-- The zeros of a string table, and the first one from an offset on.
use Rattle.std.proofs.Common.{◌≡◌, ℕ, zero, suc, ◌+◌, ◌-◌, ◌<◌, ◌≤◌, List, [], ◌∷◌, drop, length, length-drop, Option, Some, unwrap_or, max, not, Bool, true, false, cond, refl, ap, sym, ◌∙◌, ◌⊎◌, inl, inr, arith, add-one, All}
use Rattle.std.specs.Prelude.{slice_get, slice_index}
use Rattle.std.specs.List.{position_from, prefix_len}
use Rattle.std.specs.List.Sorted.{IsNonDecreasing, IsPartitionPoint}
use Rattle.std.proofs.lemmas.Bool.{cases_lt, lt-ltb, le-ltb}
use Rattle.std.proofs.Math.Seq.{drop-cons}
use Rattle.std.proofs.Math.ListN.{drop_of_length-le}
use Rattle.memchr.specs.Find.{is_byte, places_from, places}
use Rattle.elf_objects.specs.Names.{end_in}
use Rattle.elf_objects.specs.internal.Names.{first_from}

-- where a search ends stands the first that is not below
pub found_by : (zs : List ℕ) (p offset : ℕ) → IsPartitionPoint (λ z. z < offset) (λ z. offset ≤ z) zs p → slice_get zs p ≡ first_from zs offset
found_by [] p offset h = refl
found_by (z ∷ zs) zero offset h = rw (le-ltb z offset (h.1 0 z (omega arith) (omega arith))) refl
found_by (z ∷ zs) (suc p) offset h =
    rw (lt-ltb z offset (h.0 0 z (omega arith) (omega arith)))
    (found_by zs p offset (λ k d l m. h.0 (suc k) d (omega arith) (omega arith), λ k d l m. h.1 (suc k) d (omega arith) (omega arith)))

-- ---- the zeros of some bytes

front_by : (i k : ℕ) (later : List ℕ) (rest : Option ℕ) (b : Bool) → k ≤ i → first_from later k ≡ rest → first_from (cond b (i ∷ later) later) k ≡ cond b (Some i) rest
front_by i k later rest true h e = rw (le-ltb i k h) refl
front_by i k later rest false h e = e

from_here : (hay : List ℕ) (i n k : ℕ) → k ≤ i → i + n ≡ length hay → first_from (places_from (is_byte 0) hay i n) k ≡ position_from (is_byte 0) i (drop i hay)
unfolding places_from
from_here hay i zero k h e = sym (ap (position_from (is_byte 0) i) (drop_of_length-le hay (omega arith)))
from_here hay i (suc n) k h e =
    rw (drop-cons hay i 0 (omega arith), add-one i)
    (front_by i k (places_from (is_byte 0) hay (suc i) n) (position_from (is_byte 0) (suc i) (drop (suc i) hay)) (is_byte 0 (slice_index hay i)) h
    (from_here hay (suc i) n k (omega arith) (omega arith)))

skip_by : (i k : ℕ) (later : List ℕ) (b : Bool) → i < k → first_from (cond b (i ∷ later) later) k ≡ first_from later k
skip_by i k later true h = rw (lt-ltb i k h) refl
skip_by i k later false h = refl

from_by : (hay : List ℕ) (i n k : ℕ) → (i < k) ⊎ (k ≤ i) → i ≤ k → i + suc n ≡ length hay →
    (i + 1 ≤ k → first_from (places_from (is_byte 0) hay (i + 1) n) k ≡ position_from (is_byte 0) k (drop k hay)) →
    first_from (places_from (is_byte 0) hay i (suc n)) k ≡ position_from (is_byte 0) k (drop k hay)
unfolding places_from
from_by hay i n k (inl lt) h e rest = skip_by i k (places_from (is_byte 0) hay (i + 1) n) (is_byte 0 (slice_index hay i)) lt ∙ rest (omega arith)
from_by hay i n k (inr le) h e rest =
    let same : i ≡ k = omega arith in
    from_here hay i (suc n) k le e ∙ ap (λ (j : ℕ). position_from (is_byte 0) j (drop j hay)) same

from : (hay : List ℕ) (i n k : ℕ) → i ≤ k → i + n ≡ length hay → first_from (places_from (is_byte 0) hay i n) k ≡ position_from (is_byte 0) k (drop k hay)
unfolding places_from
from hay i zero k h e = sym (ap (position_from (is_byte 0) k) (drop_of_length-le hay (omega arith)))
from hay i (suc n) k h e = from_by hay i n k (cases_lt i k) h e (λ l. from hay (i + 1) n k l (omega arith))

-- the first one from an offset on is where the name there ends
pub ends : (bytes : List ℕ) (k : ℕ) → first_from (places (is_byte 0) bytes) k ≡ end_in bytes k
ends bytes k = from bytes 0 (length bytes - 0) k (omega arith) (omega arith)

-- the bytes before a 0, or before the end
long_by : (zero : Bool) (at more last : ℕ) (rest : Option ℕ) → unwrap_or rest last ≡ at + 1 + more → unwrap_or (cond zero (Some at) rest) last ≡ at + cond (not zero) (1 + more) 0
long_by true at more last rest e = omega arith
long_by false at more last rest e = omega arith

pub name_long : (bytes : List ℕ) (at last : ℕ) → last ≡ at + length bytes → unwrap_or (position_from (is_byte 0) at bytes) last ≡ at + prefix_len (λ b. not (is_byte 0 b)) bytes
name_long [] at last e = omega arith
name_long (b ∷ bytes) at last e = long_by (is_byte 0 b) at (prefix_len (λ x. not (is_byte 0 x)) bytes) last (position_from (is_byte 0) (at + 1) bytes) (name_long bytes (at + 1) last (omega arith))

pub spans : (bytes : List ℕ) (k : ℕ) → unwrap_or (first_from (places (is_byte 0) bytes) k) (max k (length bytes)) ≡ k + prefix_len (λ b. not (is_byte 0 b)) (drop k bytes)
spans bytes k = ap (λ o. unwrap_or o (max k (length bytes))) (ends bytes k) ∙ name_long (drop k bytes) k (max k (length bytes)) (simp length-drop (omega arith))

-- ---- they rise

low_cons : (x : ℕ) (xs : List ℕ) → All (λ y. x ≤ y) xs → All (λ y. x ≤ y) (x ∷ xs)
low_cons x xs h zero d l = omega arith
low_cons x xs h (suc k) d l = h k d (omega arith)

rises_cons : (x : ℕ) (xs : List ℕ) → All (λ y. x ≤ y) xs → IsNonDecreasing xs → IsNonDecreasing (x ∷ xs)
rises_cons x xs low h zero zero d le lt = omega arith
rises_cons x xs low h zero (suc j) d le lt = low j d (omega arith)
rises_cons x xs low h (suc i) zero d le lt = absurd (omega arith)
rises_cons x xs low h (suc i) (suc j) d le lt = h i j d (omega arith) (omega arith)

rises_by : (i : ℕ) (later : List ℕ) (b : Bool) → All (λ z. i + 1 ≤ z) later → IsNonDecreasing later →
    All (λ z. i ≤ z) (cond b (i ∷ later) later) × IsNonDecreasing (cond b (i ∷ later) later)
rises_by i later true low h =
    let above : All (λ z. i ≤ z) later = λ k d l. let a = low k d l in omega (arith, a) in
    (low_cons i later above, rises_cons i later above h)
rises_by i later false low h = (λ k d l. let a = low k d l in omega (arith, a), h)

rises_from : (hay : List ℕ) (i n : ℕ) → All (λ z. i ≤ z) (places_from (is_byte 0) hay i n) × IsNonDecreasing (places_from (is_byte 0) hay i n)
unfolding places_from
rises_from hay i zero = (λ k d l. absurd (omega arith), λ j k d le l. absurd (omega arith))
rises_from hay i (suc n) =
    let later = rises_from hay (i + 1) n in
    rises_by i (places_from (is_byte 0) hay (i + 1) n) (is_byte 0 (slice_index hay i)) later.0 later.1

pub rises : (bytes : List ℕ) → IsNonDecreasing (places (is_byte 0) bytes)
rises bytes = (rises_from bytes 0 (length bytes - 0)).1
