-- What a piece adds that is read to the end of what was read before it.
use Rattle.std.proofs.Common.{◌≡◌, ℕ, ◌+◌, ◌≤◌, List, ◌++◌, length, take, drop, Option, Some, None, Ok, IfSome, sym, ◌∙◌, ap, subst, arith, length-append}
use Rattle.std.proofs.Math.Seq.{take-add, take-append-add}
use Rattle.std.proofs.lemmas.List.{length-take, take-take, take-append-le, append_assoc}
use Rattle.sm_io.specs.Files.{FileMap, IsPart, ReadGives}
use Rattle.sm_io.specs.internal.Files.{IsReadSoFar}

joins : (file so_far buf : List ℕ) (n : ℕ) → take (length so_far) file ≡ so_far → n ≤ length buf → IsPart (length so_far) file buf n
    → take (length (so_far ++ take n buf)) file ≡ so_far ++ take n buf
joins file so_far buf n front room part =
    let size : length (so_far ++ take n buf) ≡ length so_far + n = grind (arith, length-append, length-take) in
    ap (λ m. take m file) size ∙ take-add (length so_far) n file ∙ ap (λ (l : List ℕ). l ++ take n (drop (length so_far) file)) front
    ∙ ap (λ (l : List ℕ). so_far ++ l) (sym part.bytes)

one : (file : Option (List ℕ)) (so_far buf : List ℕ) (n : ℕ) → IsReadSoFar file so_far → n ≤ length buf → ReadGives file (length so_far) buf (Ok n)
    → IsReadSoFar file (so_far ++ take n buf)
one None so_far buf n front room part = absurd part
one (Some file) so_far buf n front room part = joins file so_far buf n front room part

-- the bytes are those before and the first n of the piece, though they lie among others
among : (so_far buf post rest : List ℕ) (m n : ℕ) → n ≤ length buf → length so_far + n ≤ m
    → take (length so_far + n) (take m ((so_far ++ (buf ++ post)) ++ rest)) ≡ so_far ++ take n buf
among so_far buf post rest m n room fits =
    let within : n ≤ length (buf ++ post) = grind (arith, length-append) in
    take-take (length so_far + n) m ((so_far ++ (buf ++ post)) ++ rest) fits
    ∙ ap (λ (l : List ℕ). take (length so_far + n) l) (append_assoc so_far (buf ++ post) rest) ∙ take-append-add so_far ((buf ++ post) ++ rest) n
    ∙ ap (λ (l : List ℕ). so_far ++ l) (take-append-le n (buf ++ post) rest within ∙ take-append-le n buf post room)

pub reads_on : (content : Option FileMap) (name so_far lent buf post rest now : List ℕ) (k m n : ℕ) → IfSome content (λ map. IsReadSoFar (map name) so_far)
    → n ≤ length buf → IfSome content (λ map. ReadGives (map name) k buf (Ok n)) → take k lent ≡ so_far → k ≡ length so_far → k + n ≤ m
    → now ≡ take (k + n) (take m ((take k lent ++ (buf ++ post)) ++ rest)) → IfSome content (λ map. IsReadSoFar (map name) now)
reads_on None name so_far lent buf post rest now k m n front room part is_front is_length fits e = tt
reads_on (Some map) name so_far lent buf post rest now k m n front room part is_front is_length fits e =
    let k-part : ReadGives (map name) (length so_far) buf (Ok n) = subst (λ i. ReadGives (map name) i buf (Ok n)) is_length part in
    let k-fits : length so_far + n ≤ m = subst (λ i. i + n ≤ m) is_length fits in
    let same : now ≡ so_far ++ take n buf =
    e ∙ ap (λ (l : List ℕ). take (k + n) (take m ((l ++ (buf ++ post)) ++ rest))) is_front
    ∙ ap (λ i. take (i + n) (take m ((so_far ++ (buf ++ post)) ++ rest))) is_length ∙ among so_far buf post rest m n room k-fits in
    subst (λ (l : List ℕ). IsReadSoFar (map name) l) (sym same) (one (map name) so_far buf n front room k-part)
