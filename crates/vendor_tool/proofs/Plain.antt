-- Words with no space and no LF.
use Rattle.std.proofs.Common.{ℕ, ◌≡◌, ◌/◌, ◌%◌, ◌^◌, ◌<◌, Bool, true, false, not, ◌==◌, ◌&&◌, List, [], ◌∷◌, ◌++◌, get_or, refl, ap, ◌∙◌, arith}
use Rattle.std.specs.List.{All, list_all}
use Rattle.std.specs.Fmt.{decimal}
use Rattle.std.proofs.lemmas.Bool.{and_parts, not-true}
use Rattle.std.proofs.lemmas.List.Elements.{All-tail}
use Rattle.std.proofs.lemmas.List.Folds.{list_all-append}
use Rattle.std.proofs.lemmas.List.Sums.{AllPass-from_list_all}
use Rattle.hex.specs.Hex.{lower_digits}
use Rattle.texts.specs.Hexadecimals.{hex_digit, hex_byte, hex_word}
use Rattle.texts.specs.Lines.{is_line_feed}
use Rattle.texts.proofs.WordLemmas.{decimal_has_no}
use Rattle.texts.specs.Words.{is_space}

abbrev pub is_plain : ℕ → Bool
is_plain b = not (b == 32) && not (b == 10)

abbrev pub IsPlain : List ℕ → Type 0
IsPlain word = list_all is_plain word ≡ true

pub plain_append : (v w : List ℕ) → IsPlain v → IsPlain w → IsPlain (v ++ w)
plain_append v w p q = list_all-append is_plain v w ∙ ap (λ x. x && list_all is_plain w) p ∙ q

pub decimal_plain : (n : ℕ) → n < 2 ^ 64 → IsPlain (decimal n)
decimal_plain n small = by (decimal n) (decimal_has_no 32 n (omega arith) small) (decimal_has_no 10 n (omega arith) small)
  where
    by : (text : List ℕ) → All (λ b. (b == 32) ≡ false) text → All (λ b. (b == 10) ≡ false) text → IsPlain text
    by [] p q = refl
    by (b ∷ text) p q =
        let here : is_plain b ≡ true = ap (λ x. not x && not (b == 10)) (p 0 0 (omega arith)) ∙ ap not (q 0 0 (omega arith)) in
        ap (λ x. x && list_all is_plain text) here ∙ by text (All-tail (λ b. (b == 32) ≡ false) b text p) (All-tail (λ b. (b == 10) ≡ false) b text q)

digit_plain : (d : ℕ) → d < 16 → is_plain (get_or lower_digits d 0) ≡ true
digit_plain d l = AllPass-from_list_all is_plain lower_digits refl d 0 l

pub byte_plain : (byte : ℕ) → byte < 256 → IsPlain (hex_byte byte)
byte_plain byte small =
    ap (λ x. x && (is_plain (hex_digit (byte % 16)) && true)) (digit_plain (byte / 16) (omega arith))
    ∙ ap (λ x. x && true) (digit_plain (byte % 16) (omega arith))

pub word_plain : (word : ℕ) → word < 65536 → IsPlain (hex_word word)
word_plain word small = plain_append (hex_byte (word / 256)) (hex_byte (word % 256)) (byte_plain (word / 256) (omega arith)) (byte_plain (word % 256) (omega arith))

-- what a test of each byte says of all
pub each : (p : ℕ → Bool) (text : List ℕ) → ((b : ℕ) → is_plain b ≡ true → p b ≡ false) → IsPlain text → All (λ b. p b ≡ false) text
each p text says plain k d l = says _ (AllPass-from_list_all is_plain text plain k d l)

pub no_space : (b : ℕ) → is_plain b ≡ true → is_space b ≡ false
no_space b e = not-true _ (and_parts _ _ e).0

pub no_feed : (b : ℕ) → is_plain b ≡ true → is_line_feed b ≡ false
no_feed b e = not-true _ (and_parts _ _ e).1
