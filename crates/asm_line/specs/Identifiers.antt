-- Names of sections, labels and symbols.
use Rattle.std.specs.Prelude.{ℕ, nat_le, ◌==◌, Bool, false, not, ◌&&◌, ◌||◌, List, [], ◌∷◌, length}
use Rattle.std.specs.List.{list_all}
use Rattle.asm_line.specs.declared.TheConstants.{MAX_NAME}

abbrev pub is_digit : ℕ → Bool
is_digit b = nat_le 48 b && nat_le b 57

-- a letter, a digit, `_` or `.`
unfoldable pub is_name_byte : ℕ → Bool
is_name_byte b = (nat_le 97 b && nat_le b 122) || (nat_le 65 b && nat_le b 90) || is_digit b || (b == 95) || (b == 46)

-- whether there is a first byte, and it is no digit
abbrev pub starts_name : List ℕ → Bool
starts_name [] = false
starts_name (b ∷ bs) = not (is_digit b)

-- 1 to 64 letters, digits, `_` or `.`, no digit first
unfoldable pub is_name : List ℕ → Bool
is_name text = starts_name text && nat_le (length text) MAX_NAME && list_all is_name_byte text
