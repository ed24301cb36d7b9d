-- Decimals: a number by its decimal digits, with no sign and no leading zero. The text of a number is std's `decimal`.
use Rattle.std.specs.Prelude.{ℕ, ◌+◌, ◌-◌, ◌*◌, Bool, false, not, ◌==◌, ◌&&◌, ◌||◌, nat_le, if◌then◌else◌, List, [], ◌∷◌, length, fold, Option, Some, None}
use Rattle.std.specs.List.{list_all}
use Rattle.std.specs.Char.{is_ascii_digit}

-- some decimal digits, of which the first of more than one is not `0`
abbrev pub is_decimal : List ℕ → Bool
is_decimal [] = false
is_decimal (first ∷ more) = list_all is_ascii_digit (first ∷ more) && (not (first == 48) || length more == 0)

-- the number that decimal digits write
abbrev pub number_in : List ℕ → ℕ
number_in digits = fold (λ n digit. 10 * n + (digit - 48)) 0 digits

-- the number whose decimal a text is, where it is at most this
unfoldable pub read_decimal : ℕ → List ℕ → Option ℕ
read_decimal most text = if is_decimal text && nat_le (number_in text) most then Some (number_in text) else None
