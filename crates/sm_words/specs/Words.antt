-- Words, the memory's words and the sixteen registers (MSP430x1xx Family User's Guide SLAU049, section 3.2).
use Rattle.std.specs.Prelude.{◌≡◌, ℕ, zero, suc, ◌+◌, ◌-◌, ◌*◌, ◌/◌, ◌%◌, ◌<◌, List, [], ◌∷◌, length, slice_index, slice_set, slice_index_or, ◌==◌, if◌then◌else◌, ◌||◌}
use Rattle.sm_words.specs.declared.registers.TheConstants.{PC, SP, SR, CG}
use Rattle.sm_words.specs.declared.status.TheConstants.{LIMIT}

-- the n-th of these, or the last argument past them
abbrev pub nth : {A : Type 0} → ℕ → List A → A → A
nth n xs d = slice_index_or xs n d

-- the word of its low and its high byte
abbrev pub word_of : ℕ → ℕ → ℕ
word_of low high = low + 0x100 * high

-- the low and the high byte of a word
abbrev pub low_byte : ℕ → ℕ
low_byte w = w % 0x100

abbrev pub high_byte : ℕ → ℕ
high_byte w = w / 0x100 % 0x100

-- the word at an address, low byte first
abbrev pub word_at : (ℕ → ℕ) → ℕ → ℕ
word_at byte a = word_of (byte a) (byte (a + 1))

-- past the first lo, the next n bytes are 0
abbrev pub cleared : ℕ → ℕ → List ℕ → List ℕ
cleared lo zero bytes = bytes
cleared lo (suc n) [] = []
cleared zero (suc n) (b ∷ bs) = 0 ∷ cleared zero n bs
cleared (suc lo) (suc n) (b ∷ bs) = b ∷ cleared lo (suc n) bs

-- a core is a list of sixteen words; this is register n, and 0 past the sixteenth
abbrev pub reg : List ℕ → ℕ → ℕ
reg core n = slice_index core n

-- what a register keeps of a word: PC and SP are even, SR has nine bits, R3 is 0
abbrev pub kept_word : ℕ → ℕ → ℕ
kept_word n w = if (n == PC) || (n == SP) then w - w % 2 else (if n == SR then w % LIMIT else (if n == CG then 0 else w))

-- what a register keeps of a number: of its word
abbrev pub kept : ℕ → ℕ → ℕ
kept n v = kept_word n (v % 0x10000)

-- the core once a number is written to register n
abbrev pub put : List ℕ → ℕ → ℕ → List ℕ
put core n v = slice_set core n (kept n v)

-- the core that keeps of sixteen words what its registers keep
abbrev pub core_of : List ℕ → List ℕ
core_of words = put (put (put (put words PC (reg words PC)) SP (reg words SP)) SR (reg words SR)) CG (reg words CG)

-- the rules of a core
pub record IsCore (core : List ℕ) : Type 0 where
  pub sixteen : length core ≡ 16
  pub words : (n : ℕ) → reg core n < 0x10000
  pub even_pc : reg core PC % 2 ≡ 0
  pub even_sp : reg core SP % 2 ≡ 0
  pub nine_bits : reg core SR < LIMIT
  pub zero_three : reg core CG ≡ 0

-- the bit of a number whose worth is n
abbrev pub bit : ℕ → ℕ → ℕ
bit n v = (v / n) % 2

-- a sum of words or addresses
abbrev pub add16 : ℕ → ℕ → ℕ
add16 a b = (a + b) % 0x10000

-- a difference of words or addresses
abbrev pub sub16 : ℕ → ℕ → ℕ
sub16 a b = add16 a (0x10000 - b)
