-- One bit of AND and of XOR.
use Rattle.std.proofs.Common.{◌≡◌, ℕ, zero, suc, ◌+◌, ◌*◌, ◌/◌, ◌<◌, ◌%◌, ◌^◌, refl, ap, ◌∙◌, arith}
use Rattle.std.specs.Prelude.{bit_and, bit_xor}
use Rattle.std.proofs.lemmas.Nat.{and_shr, and_mod, xor_shr, xor_mod}
use Rattle.sm_words.specs.Words.{bit}

and_of_two : (p q : ℕ) → p < 2 → q < 2 → bit_and p q ≡ p * q
and_of_two zero zero h k = refl
and_of_two zero (suc zero) h k = refl
and_of_two (suc zero) zero h k = refl
and_of_two (suc zero) (suc zero) h k = refl
and_of_two (suc (suc p)) q h k = absurd (omega arith)
and_of_two p (suc (suc q)) h k = absurd (omega arith)

xor_of_two : (p q : ℕ) → p < 2 → q < 2 → bit_xor p q ≡ (p + q) % 2
xor_of_two zero zero h k = refl
xor_of_two zero (suc zero) h k = refl
xor_of_two (suc zero) zero h k = refl
xor_of_two (suc zero) (suc zero) h k = refl
xor_of_two (suc (suc p)) q h k = absurd (omega arith)
xor_of_two p (suc (suc q)) h k = absurd (omega arith)

pub bit-and : (a b k : ℕ) → bit (2 ^ k) (bit_and a b) ≡ bit (2 ^ k) a * bit (2 ^ k) b
bit-and a b k =
    ap (λ x. x % 2) (and_shr a b k) ∙ and_mod (a / 2 ^ k) (b / 2 ^ k) 1
    ∙ and_of_two (a / 2 ^ k % 2) (b / 2 ^ k % 2) (omega arith) (omega arith)

pub bit-xor : (a b k : ℕ) → bit (2 ^ k) (bit_xor a b) ≡ (bit (2 ^ k) a + bit (2 ^ k) b) % 2
bit-xor a b k =
    ap (λ x. x % 2) (xor_shr a b k) ∙ xor_mod (a / 2 ^ k) (b / 2 ^ k) 1
    ∙ xor_of_two (a / 2 ^ k % 2) (b / 2 ^ k % 2) (omega arith) (omega arith)
