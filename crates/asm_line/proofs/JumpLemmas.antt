-- The word of a jump means that jump.
use Rattle.std.proofs.Common.{ℕ, ◌≡◌, ◌+◌, ◌-◌, ◌*◌, ◌/◌, ◌%◌, ◌<◌, ◌≤◌, Bool, true, false, cond, nat_lt, Some, None, refl, ap, ◌∙◌, subst, arith}
use Rattle.std.specs.Prelude.{ℤ, pos, negsuc, ◌-ℤ◌}
use Rattle.std.proofs.lemmas.Bool.Decides.{nat_tests}
use Rattle.std.proofs.lemmas.Int.{ints}
use Rattle.std.proofs.lemmas.Option.{cond_some}
use Rattle.insn_decode.specs.declared.insn.Condition.{Condition}
use Rattle.insn_decode.specs.declared.insn.Insn.TheVariants.{Jump}
use Rattle.insn_decode.specs.Code.{offset_of}
use Rattle.insn_decode.specs.Means.{condition_code, Means, jump}
use Rattle.insn_decode.proofs.Table.{condition_code_most}
use Rattle.asm_line.specs.Encoding.{offset_bits, leading_word}
use Rattle.asm_line.proofs.WordLemmas.{option_map_some}

record HasBits (w c bits : ℕ) : Type 0 where
  pub form : w / 8192 ≡ 1
  pub cond_is : (w / 1024) % 8 ≡ c
  pub bits_are : w % 1024 ≡ bits

has_bits : (c bits : ℕ) → c < 8 → bits < 1024 → HasBits (8192 + c * 1024 + bits) c bits
has_bits c bits hc hb = record { form = omega arith; cond_is = omega arith; bits_are = omega arith }

back : (n : ℕ) → n < 512 → (pos (1023 - n) -ℤ pos 1024) ≡ negsuc n
back n low = omega (arith, ints)

bits_mean : (offset : ℤ) (bits : ℕ) → offset_bits offset ≡ Some bits → (bits < 1024) × (offset_of bits ≡ offset)
bits_mean (pos n) bits e =
    let near = cond_some (nat_lt n 512) n bits e in
    let low : n < 512 = let is = near.0 in grind (arith, nat_tests) in
    subst (λ b. (b < 1024) × (offset_of b ≡ pos n)) near.1 (omega arith, ap (λ c. cond c (pos n) (pos n -ℤ pos 1024)) near.0)
bits_mean (negsuc n) bits e =
    let near = cond_some (nat_lt n 512) (1023 - n) bits e in
    let low : n < 512 = let is = near.0 in grind (arith, nat_tests) in
    let high : nat_lt (1023 - n) 512 ≡ false = grind (arith, nat_tests) in
    subst (λ b. (b < 1024) × (offset_of b ≡ negsuc n)) near.1 (omega arith, ap (λ c. cond c (pos (1023 - n)) (pos (1023 - n) -ℤ pos 1024)) high ∙ back n low)

pub bits_back : (n : ℕ) → n < 1024 → offset_bits (offset_of n) ≡ Some n
bits_back n low = by (nat_lt n 512) refl
  where
    by : (c : Bool) → nat_lt n 512 ≡ c → offset_bits (cond c (pos n) (pos n -ℤ pos 1024)) ≡ Some n
    by true is = ap (λ c. cond c (Some n) None) is
    by false is =
        let high : 512 ≤ n = grind (arith, nat_tests) in
        let below : (pos n -ℤ pos 1024) ≡ negsuc (1023 - n) = omega (arith, ints) in
        let near : nat_lt (1023 - n) 512 ≡ true = grind (arith, nat_tests) in
        ap offset_bits below ∙ (ap (λ c. cond c (Some (1023 - (1023 - n))) None) near ∙ ap Some (let same : 1023 - (1023 - n) ≡ n = omega arith in same))

pub jump_means : (c : Condition) (offset : ℤ) (w0 w1 w2 : ℕ) → leading_word (Jump c offset) ≡ Some w0 → Means w0 w1 w2 (Jump c offset) 1
unfolding leading_word
jump_means c offset w0 w1 w2 e = option_map_some (λ bits. 0x2000 + condition_code c * 1024 + bits) (offset_bits offset) w0 e (λ bits is same.
    let m = bits_mean offset bits is in
    let b = has_bits (condition_code c) bits (condition_code_most c) m.0 in
    let w = 0x2000 + condition_code c * 1024 + bits in
    subst (λ v. Means v w1 w2 (Jump c offset) 1) same (subst (λ o. Means w w1 w2 (Jump c o) 1) m.1
    (subst (λ (n : ℕ). Means w w1 w2 (Jump c (offset_of n)) 1) b.bits_are (jump c b.form b.cond_is))))
