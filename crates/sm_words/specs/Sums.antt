-- The operations on bytes and words as sums, quotients and remainders of whole numbers
-- (MSP430x1xx Family User's Guide SLAU049, section 3.4).
use Rattle.std.specs.Prelude.{ℕ, zero, suc, ◌+◌, ◌-◌, ◌*◌, ◌/◌, ◌%◌, ◌==◌, nat_lt, nat_le, if◌then◌else◌, Bool, true, false, ◌&&◌, ◌||◌, not, ℤ, pos, ◌-ℤ◌, ◌+ℤ◌, int_lt, bit_and, bit_xor}
use Rattle.sm_words.specs.Words.{word_of}
use Rattle.sm_words.specs.declared.width.Width.{Width}
use Rattle.sm_words.specs.declared.width.Width.TheVariants.{Byte, Word}
use Rattle.sm_words.specs.declared.width.Sum.{Sum}

-- the first number that a byte or a word is too small for
abbrev pub limit : Width → ℕ
limit Byte = 0x100
limit Word = 0x10000

-- the low byte, or the word
abbrev pub low : Width → ℕ → ℕ
low w v = v % limit w

-- whether the sign bit is set
abbrev pub is_negative : Width → ℕ → Bool
is_negative w v = nat_le (limit w / 2) (low w v)

-- the signed number that a byte or a word stands for, in two's complement
abbrev pub signed : Width → ℕ → ℤ
signed w v = if is_negative w v then (pos (low w v) -ℤ pos (limit w)) else pos (low w v)

abbrev pub one_if : Bool → ℕ
one_if true = 1
one_if false = 0

-- a result with its carry and overflow; N and Z are of the result
abbrev pub flagged : Width → ℕ → Bool → Bool → Sum
flagged w v carry overflow = record { value = v; n = is_negative w v; z = v == 0; c = carry; v = overflow }

-- whether a signed number is outside the range of a byte or a word
abbrev pub is_outside : Width → ℤ → Bool
is_outside w t = int_lt t (pos 0 -ℤ pos (limit w / 2)) || not (int_lt t (pos (limit w / 2)))

-- a sum with a carry: C where it reaches 256 or 65,536, V where the signed sum is outside its range
abbrev pub sum_of : Width → ℕ → ℕ → ℕ → Sum
sum_of w a b carry =
    let t = low w a + low w b + carry in
    flagged w (low w t) (nat_le (limit w) t) (is_outside w (signed w a +ℤ signed w b +ℤ pos carry))

-- each bit turned: what a subtraction adds, with a carry of 1
abbrev pub complement : Width → ℕ → ℕ
complement w v = limit w - 1 - low w v

-- a result whose carry is the opposite of Z
abbrev pub logic_of : Width → ℕ → Bool → Sum
logic_of w v overflow = flagged w v (not (v == 0)) overflow

-- each bit that both have; V is 0
abbrev pub and_of : Width → ℕ → ℕ → Sum
and_of w a b = logic_of w (bit_and (low w a) (low w b)) false

-- each bit that one alone has; V where both are negative
abbrev pub xor_of : Width → ℕ → ℕ → Sum
xor_of w a b = logic_of w (bit_xor (low w a) (low w b)) (is_negative w a && is_negative w b)

-- the decimal sum of n digits of four bits, lowest first; its last carry stands as one digit more
abbrev pub decimal_sum : ℕ → ℕ → ℕ → ℕ → ℕ
decimal_sum zero a b carry = carry
decimal_sum (suc n) a b carry =
    let t = a % 16 + b % 16 + carry in
    (if nat_lt 9 t then (t - 10) % 16 else t) + 16 * decimal_sum n (a / 16) (b / 16) (if nat_lt 9 t then 1 else 0)

-- the number of decimal digits
abbrev pub digits : Width → ℕ
digits Byte = 2
digits Word = 4

-- the decimal sum with a carry: C is the carry of the highest digit, V is 0
abbrev pub dadd_of : Width → ℕ → ℕ → ℕ → Sum
dadd_of w a b carry =
    let t = decimal_sum (digits w) (low w a) (low w b) carry in
    flagged w (low w t) (nat_le (limit w) t) false

-- shifted right by one, with a new highest bit, as where it is rotated through the carry; C is the bit shifted out, V is 0
abbrev pub shifted : Width → ℕ → ℕ → Sum
shifted w a top = flagged w (low w a / 2 + (limit w / 2) * top) (a % 2 == 1) false

-- shifted right with the sign kept
abbrev pub rra_of : Width → ℕ → Sum
rra_of w a = shifted w a (one_if (is_negative w a))

-- the low byte as a signed word; V is 0
abbrev pub sxt_of : ℕ → Sum
sxt_of a = logic_of Word (a % 0x100 + 0xFF00 * one_if (nat_le 0x80 (a % 0x100))) false

-- the two bytes of a word changed about
abbrev pub swpb_of : ℕ → ℕ
swpb_of a = word_of (a / 0x100) (a % 0x100)
