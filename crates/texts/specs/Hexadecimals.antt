-- Hexadecimal digits of lower case, two a byte, the high four bits first.
use Rattle.std.specs.Prelude.{ℕ, ◌+◌, ◌*◌, ◌/◌, ◌%◌, Bool, ◌&&◌, ◌||◌, nat_le, if◌then◌else◌, List, [], ◌∷◌, ◌++◌, slice_index, Option, None, option_map}
use Rattle.std.specs.List.{list_all, fold}
use Rattle.std.specs.Result.{result_ok}
use Rattle.hex.specs.Hex.{lower_digits, encode_lower, decode_sized}

-- the digit of a number below 16
abbrev pub hex_digit : ℕ → ℕ
hex_digit d = slice_index lower_digits d

-- a byte as two digits
abbrev pub hex_byte : ℕ → List ℕ
hex_byte byte = hex_digit (byte / 16) ∷ hex_digit (byte % 16) ∷ []

-- a word as four digits, those of its high byte first
abbrev pub hex_word : ℕ → List ℕ
hex_word word = hex_byte (word / 256) ++ hex_byte (word % 256)

-- a key of sixteen bytes as 32 digits, byte by byte
abbrev pub hex_key : List ℕ → List ℕ
hex_key key = encode_lower key

-- `0` to `9` and `a` to `f`
abbrev pub is_hex_digit : ℕ → Bool
is_hex_digit b = (nat_le 48 b && nat_le b 57) || (nat_le 97 b && nat_le b 102)

-- the bytes of a text that is this many pairs of digits
unfoldable pub read_hex : ℕ → List ℕ → Option (List ℕ)
read_hex count text = if list_all is_hex_digit text then result_ok (decode_sized text count) else None

-- the number that bytes write, the high one first
abbrev pub number_of_bytes : List ℕ → ℕ
number_of_bytes bytes = fold (λ number byte. 256 * number + byte) 0 bytes

-- the byte of two digits
abbrev pub read_hex_byte : List ℕ → Option ℕ
read_hex_byte text = option_map number_of_bytes (read_hex 1 text)

-- the word of four digits
abbrev pub read_hex_word : List ℕ → Option ℕ
read_hex_word text = option_map number_of_bytes (read_hex 2 text)

-- the key of 32 digits
abbrev pub read_hex_key : List ℕ → Option (List ℕ)
read_hex_key text = read_hex 16 text
