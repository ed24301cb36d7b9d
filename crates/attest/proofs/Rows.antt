-- On bytes in a row.
use Rattle.std.proofs.Common.{◌≡◌, ◌≢◌, ℕ, zero, suc, ◌+◌, ◌-◌, ◌<◌, ◌≤◌, List, [], ◌∷◌, ◌++◌, length, take, drop, Bool, true, false, ◌&&◌, ◌==◌, refl, sym, ◌∙◌, ap, arith, replicate, slice_index, slice_range, slice_set}
use Rattle.std.specs.Prelude.{bytes_eq}
use Rattle.std.proofs.lemmas.Bool.Decides.{nat_tests}
use Rattle.pc_access.specs.declared.Access.{Access}
use Rattle.pc_access.specs.Rights.{access_of}
use Rattle.sm_words.specs.Words.{cleared}
use Rattle.sm_words.specs.declared.width.Width.TheVariants.{Byte}
use Rattle.mem_map.proofs.Clearing.{cleared-set}
use Rattle.pc_access.specs.declared.Kind.TheVariants.{Read, Write}
use Rattle.mod_layout.specs.declared.Module.{Module}
use Rattle.mod_layout.specs.Table.{size_of}
use Rattle.mod_layout.specs.Tables.{IsSection}
use Rattle.attest.specs.Units.{each_byte, text_reads}
use Rattle.attest.specs.Accesses.{writes_of, bytes_read, memory_after}
use Rattle.attest.specs.internal.Accesses.{text_in}
use Rattle.attest.proofs.Slices.{slice_range-cons}

-- ---- bytes stored

-- the first is stored, and then the others
pub memory_after-next : (mem : List ℕ) (a n m v : ℕ) (vs ws : List ℕ) → n ≡ suc m → vs ≡ v ∷ ws →
    memory_after mem (each_byte Write a n) vs ≡ memory_after (slice_set mem a v) (each_byte Write (a + 1) m) ws
memory_after-next mem a n m v vs ws e f =
    ap (λ k. memory_after mem (each_byte Write a k) vs) e ∙ ap (memory_after mem (each_byte Write a (suc m))) f

-- with no byte to store nothing changes
pub memory_after-none : (mem : List ℕ) (xs : List Access) → memory_after mem xs [] ≡ mem
memory_after-none mem [] = refl
memory_after-none mem (x ∷ xs) = refl

-- zeros stored in a row clear it
pub memory_after-zeros : (a n : ℕ) (mem : List ℕ) → memory_after mem (each_byte Write a n) (replicate n 0) ≡ cleared a n mem
memory_after-zeros a zero mem = refl
memory_after-zeros a (suc n) mem = memory_after-zeros (a + 1) n (slice_set mem a 0) ∙ cleared-set a n mem

-- ---- bytes compared

pub bytes_eq-next : (x y : ℕ) (xs ys us ws : List ℕ) → us ≡ x ∷ xs → ws ≡ y ∷ ys → x ≡ y → bytes_eq us ws ≡ bytes_eq xs ys
bytes_eq-next x y xs ys us ws e f same =
    ap (λ cs. bytes_eq cs ws) e ∙ ap (bytes_eq (x ∷ xs)) f
    ∙ ap (λ (b : Bool). b && bytes_eq xs ys) (let h : (x == y) ≡ true = grind (arith, nat_tests) in h)

pub bytes_eq-other : (x y : ℕ) (xs ys us ws : List ℕ) → us ≡ x ∷ xs → ws ≡ y ∷ ys → x ≢ y → bytes_eq us ws ≡ false
bytes_eq-other x y xs ys us ws e f other =
    ap (λ cs. bytes_eq cs ws) e ∙ ap (bytes_eq (x ∷ xs)) f
    ∙ ap (λ (b : Bool). b && bytes_eq xs ys) (let h : (x == y) ≡ false = grind (arith, nat_tests) in h)

-- ---- reads and writes among accesses

pub bytes_read-reads : (mem : List ℕ) (a n : ℕ) (xs : List Access) → a + n ≤ length mem →
    bytes_read mem (each_byte Read a n ++ xs) ≡ slice_range mem a (a + n) ++ bytes_read mem xs
bytes_read-reads mem a zero xs h = ap (λ n. take n (drop a mem) ++ bytes_read mem xs) (let e : 0 ≡ a + 0 - a = omega arith in e)
bytes_read-reads mem a (suc n) xs h =
    let e : a + 1 + n ≡ a + suc n = omega arith in
    let k : a + 1 + n ≤ length mem = omega arith in
    let below : a < a + suc n = omega arith in
    let within : a < length mem = omega arith in
    ap (λ vs. slice_index mem a ∷ vs) (bytes_read-reads mem (a + 1) n xs k ∙ ap (λ b. slice_range mem (a + 1) b ++ bytes_read mem xs) e)
    ∙ ap (λ vs. vs ++ bytes_read mem xs) (sym (slice_range-cons mem a (a + suc n) below within))

pub bytes_read-writes : (mem : List ℕ) (a n : ℕ) (xs : List Access) → bytes_read mem (each_byte Write a n ++ xs) ≡ bytes_read mem xs
bytes_read-writes mem a zero xs = refl
bytes_read-writes mem a (suc n) xs = bytes_read-writes mem (a + 1) n xs

pub writes_of-reads : (a n : ℕ) (xs : List Access) → writes_of (each_byte Read a n ++ xs) ≡ writes_of xs
writes_of-reads a zero xs = refl
writes_of-reads a (suc n) xs = writes_of-reads (a + 1) n xs

pub writes_of-writes : (a n : ℕ) (xs : List Access) → writes_of (each_byte Write a n ++ xs) ≡ each_byte Write a n ++ writes_of xs
writes_of-writes a zero xs = refl
writes_of-writes a (suc n) xs = ap (λ ys. access_of Write a Byte ∷ ys) (writes_of-writes (a + 1) n xs)

-- the reads of a text give the text
pub text_values : (mem : List ℕ) → length mem ≡ 65536 → (m : Module) (xs : List Access) → IsSection m.text →
    bytes_read mem (text_reads m ++ xs) ≡ text_in mem m ++ bytes_read mem xs
text_values mem size m xs ok =
    let o = ok.order in let h = ok.high in
    let inside : m.text.start + size_of m.text ≤ length mem = omega arith in
    let end : m.text.start + size_of m.text ≡ m.text.end = omega arith in
    bytes_read-reads mem m.text.start (size_of m.text) xs inside ∙ ap (λ n. slice_range mem m.text.start n ++ bytes_read mem xs) end
