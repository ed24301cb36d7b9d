-- Decimal numbers by digits of four bits.
use Rattle.std.specs.Prelude.{ℕ, zero, suc, ◌+◌, ◌*◌, ◌/◌, ◌%◌, ◌<◌}

-- the lowest n digits of four bits are decimal digits
abbrev pub IsDecimal : ℕ → ℕ → Type 0
IsDecimal zero a = Unit {0}
IsDecimal (suc n) a = (a % 16 < 10) × IsDecimal n (a / 16)

-- the decimal number that these digits write
abbrev pub digits_number : ℕ → ℕ → ℕ
digits_number zero a = 0
digits_number (suc n) a = a % 16 + 10 * digits_number n (a / 16)

-- the first decimal number that n digits are too few for
abbrev pub bound_of : ℕ → ℕ
bound_of zero = 1
bound_of (suc n) = 10 * bound_of n
