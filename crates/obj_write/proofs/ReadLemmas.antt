-- Bytes that stand at a place of a file, and what is read there.
use Rattle.std.proofs.Common.{◌≡◌, ℕ, zero, suc, ◌+◌, ◌*◌, ◌/◌, ◌%◌, ◌<◌, ◌≤◌, ◌^◌, List, [], ◌∷◌, ◌++◌, refl, ap, sym, subst, ◌∙◌, arith, append_assoc, length, take, drop, get_or, length-append, false, cond, ltb, slice_index, ◌⊎◌, inl, inr}
use Rattle.std.specs.List.{flat_map}
use Rattle.std.proofs.lemmas.Bool.{cases_lt, le-ltb}
use Rattle.std.proofs.lemmas.Bool.Decides.{nat_tests}
use Rattle.std.proofs.lemmas.List.{drop_at, get_or_at, length-take, take-append-drop}
use Rattle.byteorder.specs.Endian.{little_number}
use Rattle.byteorder.specs.Numbers.{little_number-reads_back}
use Rattle.elf_objects.specs.Bytes.{half_at, long_at}
use Rattle.elf_objects.specs.Passes.{all_below}
use Rattle.elf_objects.specs.declared.section.Header.{Header}
use Rattle.elf_objects.specs.Header.{table_offset}
use Rattle.elf_objects.specs.Section.{header_of}
use Rattle.obj_write.specs.declared.sections.Head.{Head}
use Rattle.obj_write.specs.Bytes.{half_bytes, long_bytes}
use Rattle.obj_write.specs.Sections.{head_bytes}

-- these bytes stand at this place of the file
pub record Stands (file : List ℕ) (at : ℕ) (bytes : List ℕ) : Type 0 where
  pub front : List ℕ
  pub rest : List ℕ
  pub whole : file ≡ front ++ (bytes ++ rest)
  pub begun : length front ≡ at

pub stands_left : (file : List ℕ) (at : ℕ) (a b : List ℕ) → Stands file at (a ++ b) → Stands file at a
stands_left file at a b s = record { front = s.front; rest = b ++ s.rest; whole = s.whole ∙ ap (λ l. s.front ++ l) (append_assoc a b s.rest); begun = s.begun }

pub stands_right : (file : List ℕ) (at after : ℕ) (a b : List ℕ) → after ≡ at + length a → Stands file at (a ++ b) → Stands file after b
stands_right file at after a b e s = let n = length-append s.front a in let m = s.begun in record {
  front = s.front ++ a;
  rest = s.rest;
  whole = s.whole ∙ (ap (λ l. s.front ++ l) (append_assoc a b s.rest) ∙ sym (append_assoc s.front a (b ++ s.rest)));
  begun = omega (arith, n, m);
}

pub stands_drop : (file : List ℕ) (at : ℕ) (bytes : List ℕ) (s : Stands file at bytes) → drop at file ≡ bytes ++ s.rest
stands_drop file at bytes s = ap (drop at) s.whole ∙ drop_at s.front (bytes ++ s.rest) at s.begun

pub stands_within : (file : List ℕ) (at : ℕ) (bytes : List ℕ) → Stands file at bytes → at + length bytes ≤ length file
stands_within file at bytes s =
    let a = length-append s.front (bytes ++ s.rest) in
    let b = length-append bytes s.rest in
    let c : length file ≡ length (s.front ++ (bytes ++ s.rest)) = ap length s.whole in
    let d = s.begun in
    omega (arith, a, b, c, d)

-- a part of bytes that stand at a place
pub stands_part : (file bytes : List ℕ) (at n m : ℕ) → ltb (length bytes) n ≡ false → Stands file at bytes → Stands file (at + n) (take m (drop n bytes))
stands_part file bytes at n m within s =
    let le : n ≤ length bytes = grind (arith, nat_tests) in
    let l = length-take n bytes in
    let after = stands_right file at (at + n) (take n bytes) (drop n bytes) (omega (arith, l, le)) (subst (Stands file at) (sym (take-append-drop n bytes)) s) in
    stands_left file (at + n) (take m (drop n bytes)) (drop m (drop n bytes)) (subst (Stands file (at + n)) (sym (take-append-drop m (drop n bytes))) after)

pub word_read : (file : List ℕ) (at n : ℕ) → n < 2 ^ 32 → Stands file at (long_bytes n) → long_at file at ≡ n
unfolding long_at
word_read file at n small s =
    ap (λ b. cond b 0 (little_number 4 (drop at file))) (le-ltb (length file) (at + 4) (stands_within file at (long_bytes n) s))
    ∙ (ap (little_number 4) (stands_drop file at (long_bytes n) s) ∙ little_number-reads_back 4 n s.rest small)

four_bytes : (a b c d a' b' c' d' : ℕ) → a ≡ a' → b ≡ b' → c ≡ c' → d ≡ d' → let x : List ℕ = a ∷ (b ∷ (c ∷ (d ∷ []))) in let y : List ℕ = a' ∷ (b' ∷ (c' ∷ (d' ∷ []))) in x ≡ y
four_bytes a b c d a' b' c' d' p q r s = rw (p, q, r, s) refl

-- only the low 32 bits are written
word_bytes_low : (n : ℕ) → long_bytes n ≡ long_bytes (n % 4294967296)
word_bytes_low n =
    let m : ℕ = n % 4294967296 in
    four_bytes (n % 256) (n / 256 % 256) (n / 65536 % 256) (n / 16777216 % 256) (m % 256) (m / 256 % 256) (m / 65536 % 256) (m / 16777216 % 256)
    (omega arith) (omega arith) (omega arith) (omega arith)

pub word_low : (file : List ℕ) (at n : ℕ) → Stands file at (long_bytes n) → long_at file at ≡ n % 2 ^ 32
word_low file at n s = word_read file at (n % 4294967296) (omega arith) (subst (Stands file at) (word_bytes_low n) s)

pub half_read : (file : List ℕ) (at n : ℕ) → n < 2 ^ 16 → Stands file at (half_bytes n) → half_at file at ≡ n
unfolding half_at
half_read file at n small s =
    ap (λ b. cond b 0 (little_number 2 (drop at file))) (le-ltb (length file) (at + 2) (stands_within file at (half_bytes n) s))
    ∙ (ap (little_number 2) (stands_drop file at (half_bytes n) s) ∙ little_number-reads_back 2 n s.rest small)

pub byte_read : (file : List ℕ) (at b : ℕ) (bs : List ℕ) → Stands file at (b ∷ bs) → slice_index file at ≡ b
byte_read file at b bs s = ap (λ l. get_or l at 0) s.whole ∙ get_or_at s.front b (bs ++ s.rest) 0 at s.begun

-- ---- headers

-- each field fits a word
pub record IsSmall (h : Head) : Type 0 where
  pub name : h.name < 2 ^ 32
  pub kind : h.kind < 2 ^ 32
  pub flags : h.flags < 2 ^ 32
  pub offset : h.offset < 2 ^ 32
  pub size : h.size < 2 ^ 32
  pub link : h.link < 2 ^ 32
  pub info : h.info < 2 ^ 32
  pub align : h.align < 2 ^ 32
  pub entry_size : h.entry_size < 2 ^ 32

abbrev pub header : Head → Header
header h = record { name = h.name; kind = h.kind; flags = h.flags; offset = h.offset; size = h.size; link = h.link; info = h.info; align = h.align; entry_size = h.entry_size }

header_same : (a b c d e f g h i a' b' c' d' e' f' g' h' i' : ℕ) → a ≡ a' → b ≡ b' → c ≡ c' → d ≡ d' → e ≡ e' → f ≡ f' → g ≡ g' → h ≡ h' → i ≡ i'
    → let x : Header = record { name = a; kind = b; flags = c; offset = d; size = e; link = f; info = g; align = h; entry_size = i } in
    let y : Header = record { name = a'; kind = b'; flags = c'; offset = d'; size = e'; link = f'; info = g'; align = h'; entry_size = i' } in x ≡ y
header_same a b c d e f g h i a' b' c' d' e' f' g' h' i' p₁ p₂ p₃ p₄ p₅ p₆ p₇ p₈ p₉ = rw (p₁, p₂, p₃, p₄, p₅, p₆, p₇, p₈, p₉) refl

pub header_read : (file : List ℕ) (index : ℕ) (h : Head) → IsSmall h → Stands file (table_offset file + 40 * index) (head_bytes h) → header_of file index ≡ header h
unfolding header_of head_bytes
header_read file index h small s =
    let at : ℕ = table_offset file + 40 * index in
    let word : (n : ℕ) → ltb 40 n ≡ false → Stands file (at + n) (take 4 (drop n (head_bytes h))) = λ n within. stands_part file (head_bytes h) at n 4 within s in
    header_same _ _ _ _ _ _ _ _ _ h.name h.kind h.flags h.offset h.size h.link h.info h.align h.entry_size
    (word_read file at h.name small.name (stands_left file at (long_bytes h.name) (drop 4 (head_bytes h)) s))
    (word_read file (at + 4) h.kind small.kind (word 4 refl))
    (word_read file (at + 8) h.flags small.flags (word 8 refl))
    (word_read file (at + 16) h.offset small.offset (word 16 refl))
    (word_read file (at + 20) h.size small.size (word 20 refl))
    (word_read file (at + 24) h.link small.link (word 24 refl))
    (word_read file (at + 28) h.info small.info (word 28 refl))
    (word_read file (at + 32) h.align small.align (word 32 refl))
    (word_read file (at + 36) h.entry_size small.entry_size (word 36 refl))

-- ---- parts of what is joined

stands_below_by : (file : List ℕ) (at : ℕ) (f : ℕ → List ℕ) (n k : ℕ) → (k < n) ⊎ (n ≤ k) → k < suc n → Stands file at (all_below f n ++ f n)
    → (k < n → Stands file at (all_below f n) → Stands file (at + length (all_below f k)) (f k)) → Stands file (at + length (all_below f k)) (f k)
stands_below_by file at f n k (inl lt) within s rest = rest lt (stands_left file at (all_below f n) (f n) s)
stands_below_by file at f n k (inr le) within s rest =
    let same : n ≡ k = omega arith in
    subst (λ (j : ℕ). Stands file (at + length (all_below f j)) (f j)) same (stands_right file at (at + length (all_below f n)) (all_below f n) (f n) refl s)

-- of what a function gives at each index
pub stands_below : (file : List ℕ) (at : ℕ) (f : ℕ → List ℕ) (n k : ℕ) → k < n → Stands file at (all_below f n) → Stands file (at + length (all_below f k)) (f k)
unfolding all_below
stands_below file at f zero k lt s = absurd (omega arith)
stands_below file at f (suc n) k lt s = stands_below_by file at f n k (cases_lt k n) lt s (stands_below file at f n k)

-- where each part has as many bytes
pub length_below : (f : ℕ → List ℕ) (size n : ℕ) → ((k : ℕ) → k < n → length (f k) ≡ size) → length (all_below f n) ≡ size * n
unfolding all_below
length_below f size zero each = omega arith
length_below f size (suc n) each =
    let a = length-append (all_below f n) (f n) in
    let b = length_below f size n (λ k lt. each k (omega arith)) in
    let c = each n (omega arith) in
    omega (arith, a, b, c)

-- of what a function gives of each value
pub stands_each : {A : Type 0} (file : List ℕ) (at : ℕ) (f : A → List ℕ) (xs : List A) (k : ℕ) (d : A) → k < length xs → Stands file at (flat_map f xs)
    → Stands file (at + length (flat_map f (take k xs))) (f (get_or xs k d))
stands_each file at f [] k d lt s = absurd (omega arith)
stands_each file at f (x ∷ xs) zero d lt s =
    subst (λ (n : ℕ). Stands file n (f x)) (omega arith) (stands_left file at (f x) (flat_map f xs) s)
stands_each file at f (x ∷ xs) (suc k) d lt s =
    let n = length-append (f x) (flat_map f (take k xs)) in
    subst (λ (m : ℕ). Stands file m (f (get_or xs k d))) (omega (arith, n))
    (stands_each file (at + length (f x)) f xs k d (omega arith) (stands_right file at (at + length (f x)) (f x) (flat_map f xs) refl s))
