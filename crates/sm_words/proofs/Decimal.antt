-- Decimal sums.
use Rattle.std.proofs.Common.{ℕ, zero, suc, ◌+◌, ◌-◌, ◌*◌, ◌/◌, ◌<◌, ◌≤◌, ◌%◌, arith, Bool, true, false, cond, nat_lt}
use Rattle.std.proofs.lemmas.Bool.Decides.{nat_tests}
use Rattle.sm_words.specs.Sums.{decimal_sum, one_if}

-- the number of values of n digits
abbrev room : ℕ → ℕ
room zero = 1
room (suc n) = 16 * room n

digit_small : (t : ℕ) → t < 32 → cond (nat_lt 9 t) ((t - 10) % 16) t < 16
digit_small t h = grind (arith, nat_tests)

carry_small : (b : Bool) → cond b 1 0 ≤ 1
carry_small true = omega arith
carry_small false = omega arith

below_room : (n a b c : ℕ) → c ≤ 1 → decimal_sum n a b c < 2 * room n
below_room zero a b c h = omega arith
below_room (suc n) a b c h =
    let t : ℕ = a % 16 + b % 16 + c in
    let small : t < 32 = omega arith in
    let d : cond (nat_lt 9 t) ((t - 10) % 16) t < 16 = digit_small t small in
    let rest : decimal_sum n (a / 16) (b / 16) (cond (nat_lt 9 t) 1 0) < 2 * room n = below_room n (a / 16) (b / 16) (cond (nat_lt 9 t) 1 0) (carry_small (nat_lt 9 t)) in
    omega arith

room_small : (n : ℕ) → n < 4 → room n ≤ 4096
room_small (suc (suc (suc (suc n)))) h = absurd (omega arith)
room_small _ h = omega arith

carry_of : (c : Bool) → one_if c ≤ 1
carry_of true = omega arith
carry_of false = omega arith

-- the sum of less than four digits
pub decimal_small : (n a b : ℕ) (c : Bool) → n < 4 → decimal_sum n a b (one_if c) < 8192
decimal_small n a b c h = omega (arith, below_room n a b (one_if c) (carry_of c), room_small n h)
