-- The laws of texts. Each is what a function of this crate ensures.
use Rattle.std.specs.Prelude.{◌≡◌, ◌↔◌, ℕ, ◌<◌, ◌≤◌, ◌^◌, true, false, List, length, Option, Some}
use Rattle.std.specs.List.{All}
use Rattle.std.specs.Fmt.{decimal}
use Rattle.hex.specs.Hex.{IsBytes}
use Rattle.texts.specs.Decimals.{is_decimal, number_in, read_decimal}
use Rattle.texts.specs.Hexadecimals.{hex_byte, hex_word, hex_key, read_hex_byte, read_hex_word, read_hex_key}
use Rattle.texts.specs.Lines.{is_line_feed, ended_lines, unended, lines_text}

-- A text is read as a value exactly where it is the text of that value, and the value is one of these.
abbrev pub IsReadExactly : {A : Type 0} → (List ℕ → Option A) → (A → List ℕ) → (A → Type 0) → Type 0
IsReadExactly {A} read written IsValue = (text : List ℕ) (value : A) → (read text ≡ Some value) ↔ (IsValue value × (text ≡ written value))

abbrev pub DecimalsAreRead : Type 0
DecimalsAreRead = (most : ℕ) → most < 2 ^ 64 → IsReadExactly (read_decimal most) decimal (λ n. n ≤ most)

abbrev pub BytesAreRead : Type 0
BytesAreRead = IsReadExactly read_hex_byte hex_byte (λ byte. byte < 256)

abbrev pub WordsAreRead : Type 0
WordsAreRead = IsReadExactly read_hex_word hex_word (λ word. word < 65536)

abbrev pub KeysAreRead : Type 0
KeysAreRead = IsReadExactly read_hex_key hex_key (λ key. (length key ≡ 16) × IsBytes key)

-- A decimal has at most n digits exactly where its number is below 10 to the n.
abbrev pub DigitsAreCounted : Type 0
DigitsAreCounted = (text : List ℕ) (n : ℕ) → is_decimal text ≡ true → 0 < n → n < 20 → (length text ≤ n) ↔ (number_in text < 10 ^ n)

-- A text is its lines and what stands behind the last LF.
abbrev pub TextsAreLines : Type 0
TextsAreLines = (text : List ℕ) → text ≡ lines_text (ended_lines text) (unended text)

-- no byte of these is LF
abbrev pub HasNoFeed : List ℕ → Type 0
HasNoFeed line = All (λ b. is_line_feed b ≡ false) line

-- Lines that are written are read back, and so is what stands behind them.
abbrev pub LinesAreRead : Type 0
LinesAreRead = (lines : List (List ℕ)) (behind : List ℕ) → All HasNoFeed lines → HasNoFeed behind →
    (ended_lines (lines_text lines behind) ≡ lines) × (unended (lines_text lines behind) ≡ behind)
