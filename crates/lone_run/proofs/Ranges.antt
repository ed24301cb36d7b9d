-- Accesses byte by byte, and those of a tag.
use Rattle.std.proofs.Common.{◌≡◌, ◌≢◌, ◌<◌, ◌≤◌, ℕ, zero, suc, ◌+◌, ◌-◌, nat_le, List, [], ◌∷◌, ◌++◌, refl, sym, ap, ◌∙◌, arith, Bool, true, false, cond, ◌&&◌, ◌||◌}
use Rattle.std.proofs.lemmas.Bool.Decides.{nat_tests}
use Rattle.sm_words.specs.Words.{reg}
use Rattle.sm_words.specs.declared.width.Width.TheVariants.{Byte}
use Rattle.mod_layout.specs.Table.{holds, size_of}
use Rattle.pc_access.specs.declared.Kind.{Kind}
use Rattle.pc_access.specs.declared.Kind.TheVariants.{Read, Write}
use Rattle.pc_access.specs.declared.Access.{Access}
use Rattle.attest.specs.Units.{Tag, each_byte, in_range, text_reads, unit_plan}
use Rattle.cpu_step.specs.Lone.{Job, lone_who, is_inside, all_inside}

pub bytes_next : (j : Job) (kind : Kind) (start k count : ℕ) → k < count → is_inside j record { kind = kind; addr = start + k; width = Byte } ≡ true →
    all_inside j (each_byte kind (start + k) (count - k)) ≡ all_inside j (each_byte kind (start + (k + 1)) (count - (k + 1)))
bytes_next j kind start k count lt e =
    ap (λ n. all_inside j (each_byte kind (start + k) n)) (let f : count - k ≡ suc (count - (k + 1)) = omega arith in f)
    ∙ ap (λ b. b && all_inside j (each_byte kind (start + k + 1) (count - (k + 1)))) e
    ∙ ap (λ a. all_inside j (each_byte kind a (count - (k + 1)))) (let f : start + k + 1 ≡ start + (k + 1) = omega arith in f)

pub bytes_other : (j : Job) (kind : Kind) (start k count : ℕ) → k < count → is_inside j record { kind = kind; addr = start + k; width = Byte } ≡ false →
    all_inside j (each_byte kind (start + k) (count - k)) ≡ false
bytes_other j kind start k count lt e =
    ap (λ n. all_inside j (each_byte kind (start + k) n)) (let f : count - k ≡ suc (count - (k + 1)) = omega arith in f)
    ∙ ap (λ b. b && all_inside j (each_byte kind (start + k + 1) (count - (k + 1)))) e

pub bytes_end : (j : Job) (kind : Kind) (a count : ℕ) → all_inside j (each_byte kind a (count - count)) ≡ true
bytes_end j kind a count = ap (λ n. all_inside j (each_byte kind a n)) (let f : count - count ≡ 0 = omega arith in f)

all_append : (j : Job) (xs ys : List Access) → all_inside j (xs ++ ys) ≡ (all_inside j xs && all_inside j ys)
all_append j [] ys = refl
all_append j (x ∷ xs) ys = by (is_inside j x) (all_append j xs ys)
  where
    by : (b : Bool) → all_inside j (xs ++ ys) ≡ (all_inside j xs && all_inside j ys) → (b && all_inside j (xs ++ ys)) ≡ (b && all_inside j xs && all_inside j ys)
    by true e = e
    by false e = refl

-- a text is in itself
text_bytes : (j : Job) (a n : ℕ) → j.owner.text.start ≤ a → a + n ≤ j.owner.text.end → all_inside j (each_byte Read a n) ≡ true
text_bytes j a zero low high = refl
text_bytes j a (suc n) low high =
    ap (λ b. (b || holds j.owner.ram a) && all_inside j (each_byte Read (a + 1) n)) (let e : holds j.owner.text a ≡ true = grind (arith, nat_tests) in e)
    ∙ text_bytes j (a + 1) n (omega arith) (omega arith)

text_inside : (j : Job) → all_inside j (text_reads j.owner) ≡ true
text_inside j = by (nat_le j.owner.text.start j.owner.text.end) refl
  where
    by : (b : Bool) → nat_le j.owner.text.start j.owner.text.end ≡ b → all_inside j (text_reads j.owner) ≡ true
    by true e = let h : j.owner.text.start ≤ j.owner.text.end = grind (arith, nat_tests) in text_bytes j j.owner.text.start (size_of j.owner.text) (omega arith) (omega arith)
    by false e = ap (λ n. all_inside j (each_byte Read j.owner.text.start n)) (let h : j.owner.text.end < j.owner.text.start = grind (arith, nat_tests) in let f : j.owner.text.end - j.owner.text.start ≡ 0 = omega arith in f)

-- a tag with its ranges
pub tag_ranges : (j : Job) (core : List ℕ) (a n out : ℕ) (r w : Bool) → (in_range (reg core 12) (reg core 13) && in_range (reg core 14) (reg core 14 + 16)) ≡ true →
    a ≡ reg core 12 → n ≡ reg core 13 - reg core 12 → out ≡ reg core 14 → r ≡ all_inside j (each_byte Read a n) → w ≡ all_inside j (each_byte Write out 16) →
    (r && w) ≡ all_inside j (unit_plan (lone_who j) Tag core)
unfolding unit_plan
tag_ranges j core a n out r w e ea en eo er ew =
    sym (ap (λ b. all_inside j (cond b (each_byte Read (reg core 12) (reg core 13 - reg core 12) ++ each_byte Write (reg core 14) 16 ++ text_reads j.owner) [])) e
    ∙ all_append j (each_byte Read (reg core 12) (reg core 13 - reg core 12) ++ each_byte Write (reg core 14) 16) (text_reads j.owner)
    ∙ ap (λ b. b && all_inside j (text_reads j.owner)) (all_append j (each_byte Read (reg core 12) (reg core 13 - reg core 12)) (each_byte Write (reg core 14) 16))
    ∙ ap (λ b. all_inside j (each_byte Read (reg core 12) (reg core 13 - reg core 12)) && all_inside j (each_byte Write (reg core 14) 16) && b) (text_inside j)
    ∙ last (all_inside j (each_byte Read (reg core 12) (reg core 13 - reg core 12))) (all_inside j (each_byte Write (reg core 14) 16))
    ∙ ap (λ b. b && all_inside j (each_byte Write (reg core 14) 16)) (ap (λ m. all_inside j (each_byte Read (reg core 12) m)) (sym en) ∙ ap (λ a. all_inside j (each_byte Read a n)) (sym ea) ∙ sym er)
    ∙ ap (λ b. r && b) (ap (λ o. all_inside j (each_byte Write o 16)) (sym eo) ∙ sym ew))
  where
    last : (x y : Bool) → (x && y && true) ≡ (x && y)
    last true true = refl
    last _ _ = refl

-- no tag, no access
pub tag_none : (j : Job) (core : List ℕ) → (in_range (reg core 12) (reg core 13) && in_range (reg core 14) (reg core 14 + 16)) ≡ false → all_inside j (unit_plan (lone_who j) Tag core) ≡ true
unfolding unit_plan
tag_none j core e = ap (λ b. all_inside j (cond b (each_byte Read (reg core 12) (reg core 13 - reg core 12) ++ each_byte Write (reg core 14) 16 ++ text_reads j.owner) [])) e
