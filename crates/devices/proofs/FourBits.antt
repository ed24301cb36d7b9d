-- Four bits with one set or clear.
use Rattle.std.proofs.Common.{ℕ, ◌≡◌, ◌-◌, ◌*◌, ◌%◌, ◌^◌, ◌<◌, Bool, true, ◌&&◌, refl, arith, nat_eq, nat_lt, bit_and, bit_or}
use Rattle.std.proofs.lemmas.Bool.Decides.{nat_tests}
use Rattle.std.proofs.lemmas.Bool.{agree_below, agree_below_at}
use Rattle.devices.specs.Devices.{with_bit}

abbrev yes : ℕ → Bool
yes n = true

sets : ℕ → ℕ → Bool
sets v n = nat_eq (bit_or v (1 * 2 ^ n % 256)) (with_bit v n 1) && nat_lt (with_bit v n 1) 16

clears : ℕ → ℕ → Bool
clears v n = nat_eq (bit_and v (255 - 1 * 2 ^ n % 256)) (with_bit v n 0)

all_set : agree_below (λ v. agree_below (λ n. sets v n) yes 4) yes 16 ≡ true
unfolding sets
all_set = refl

all_clear : agree_below (λ v. agree_below (λ n. clears v n) yes 4) yes 16 ≡ true
unfolding clears
all_clear = refl

pub bit_or-with_bit : (v n : ℕ) → v < 16 → n < 4 → bit_or v (1 * 2 ^ n % 256) ≡ with_bit v n 1
unfolding sets
bit_or-with_bit v n small bit =
    let h : sets v n ≡ true = agree_below_at (λ n. sets v n) yes 4 n (agree_below_at (λ v. agree_below (λ n. sets v n) yes 4) yes 16 v all_set small) bit in
    grind (arith, nat_tests)

pub bit_or-small : (v n : ℕ) → v < 16 → n < 4 → bit_or v (1 * 2 ^ n % 256) < 16
unfolding sets
bit_or-small v n small bit =
    let h : sets v n ≡ true = agree_below_at (λ n. sets v n) yes 4 n (agree_below_at (λ v. agree_below (λ n. sets v n) yes 4) yes 16 v all_set small) bit in
    grind (arith, nat_tests)

pub bit_and-with_bit : (v n : ℕ) → v < 16 → n < 4 → bit_and v (255 - 1 * 2 ^ n % 256) ≡ with_bit v n 0
unfolding clears
bit_and-with_bit v n small bit =
    let h : clears v n ≡ true = agree_below_at (λ n. clears v n) yes 4 n (agree_below_at (λ v. agree_below (λ n. clears v n) yes 4) yes 16 v all_clear small) bit in
    grind (arith, nat_tests)
