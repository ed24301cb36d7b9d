-- Lemmas on hexadecimal digits.
use Rattle.std.proofs.Common.{ℕ, suc, ◌≡◌, ◌+◌, ◌*◌, ◌/◌, ◌%◌, ◌<◌, Bool, true, ◌&&◌, nat_lt, List, [], ◌∷◌, length, get_or, slice_index, Option, Some, None, Result, Ok, Err, refl, sym, ap, subst, ◌∙◌, cond, arith}
use Rattle.std.specs.List.{list_all}
use Rattle.std.specs.Result.{result_ok}
use Rattle.std.specs.Str.{IsAscii}
use Rattle.std.proofs.lemmas.Bool.Decides.{nat_tests}
use Rattle.std.proofs.lemmas.List.Sums.{AllPass-from_list_all}
use Rattle.std.proofs.lemmas.Str.Ascii.{IsAscii-from_all}
use Rattle.hex.specs.Hex.{IsBytes, lower_digits, encode_with, encode_lower, hex_digit_value, digit_or_error, value_at, pair_value, decode_pairs, decode_of, decode_sized, ◌>>=◌}
use Rattle.hex.specs.declared.error.FromHexError.{FromHexError}
use Rattle.hex.proofs.HexLemmas.{IsAscii-encode_with, IsDigits-lower_digits, decode_sized-encode_lower, decode_sized-ok, decode_sized-twice, decode_of-ok, decode_of-even}
use Rattle.texts.specs.Hexadecimals.{is_hex_digit, read_hex, hex_byte, hex_word}

digits_are_ascii : IsAscii lower_digits
digits_are_ascii = IsAscii-from_all lower_digits (λ k d l. let p : nat_lt (get_or lower_digits k d) 128 ≡ true = AllPass-from_list_all (λ b. nat_lt b 128) lower_digits refl k d l in grind (arith, nat_tests))

-- digits are ASCII
pub hex_is_ascii : (digits bytes : List ℕ) → digits ≡ encode_lower bytes → IsAscii digits
hex_is_ascii digits bytes e = subst IsAscii (sym e) (IsAscii-encode_with lower_digits bytes digits_are_ascii)

-- each digit of the table is one
table_digit : (d : ℕ) → d < 16 → is_hex_digit (slice_index lower_digits d) ≡ true
table_digit d l = AllPass-from_list_all is_hex_digit lower_digits refl d 0 l

-- what is written is digits
pub hex_has_digits : (bytes : List ℕ) → IsBytes bytes → list_all is_hex_digit (encode_lower bytes) ≡ true
unfolding encode_with
hex_has_digits [] h = refl
hex_has_digits (b ∷ bytes) h =
    let byte : b < 256 = h 0 in
    let high = table_digit (b / 16) (omega arith) in
    let low = table_digit (b % 16) (omega arith) in
    rw (high, low) (hex_has_digits bytes (λ k. h (suc k)))

-- what is written is read back
pub read_hex-encode : (count : ℕ) (bytes : List ℕ) → length bytes ≡ count → IsBytes bytes → read_hex count (encode_lower bytes) ≡ Some bytes
unfolding read_hex
read_hex-encode count bytes long are = rw (hex_has_digits bytes are) (ap result_ok (decode_sized-encode_lower bytes count long are))

-- ---- one text

digit_is : (c v : ℕ) → is_hex_digit c ≡ true → hex_digit_value c ≡ Some v → slice_index lower_digits v ≡ c
digit_is c v e h =
    let small : v < 16 = grind (arith, nat_tests) in
    let same : hex_digit_value (slice_index lower_digits v) ≡ Some v = IsDigits-lower_digits v small in
    one (slice_index lower_digits v) (table_digit v small) same
  where
    one : (d : ℕ) → is_hex_digit d ≡ true → hex_digit_value d ≡ Some v → d ≡ c
    one d f g = grind (arith, nat_tests)

record Bound {A B : Type 0} (r : Result A FromHexError) (f : A → Result B FromHexError) (y : B) : Type 0 where
  pub value : A
  pub first : r ≡ Ok value
  pub second : f value ≡ Ok y

bind_ok : {A B : Type 0} (r : Result A FromHexError) (f : A → Result B FromHexError) (y : B) → (r >>= f) ≡ Ok y → Bound r f y
bind_ok (Ok x) f y h = record { value = x; first = refl; second = h }
bind_ok (Err e) f y h = absurd cc

digit_read : (c i : ℕ) (o : Option ℕ) (v : ℕ) → digit_or_error c i o ≡ Ok v → o ≡ Some v
digit_read c i (Some w) v h = let e : w ≡ v = cc in ap Some e
digit_read c i None v h = absurd cc

pairs_text : (i : ℕ) (text bytes : List ℕ) → list_all is_hex_digit text ≡ true → decode_pairs i text ≡ Ok bytes → text ≡ encode_lower bytes
unfolding decode_pairs encode_with
pairs_text i [] bytes e h = let none : [] ≡ bytes = cc in ap encode_lower none
pairs_text i (a ∷ []) bytes e h = absurd cc
pairs_text i (a ∷ b ∷ rest) bytes e h =
    let pair = bind_ok (pair_value a b i) _ bytes h in
    let high = bind_ok (value_at a i) _ pair.value pair.first in
    let low = bind_ok (value_at b (i + 1)) _ pair.value high.second in
    let more = bind_ok (decode_pairs (i + 2) rest) _ bytes pair.second in
    let three = three_parts (is_hex_digit a) (is_hex_digit b) (list_all is_hex_digit rest) e in
    let ea = digit_is a high.value three.0 (digit_read a i (hex_digit_value a) high.value high.first) in
    let eb = digit_is b low.value three.1 (digit_read b (i + 1) (hex_digit_value b) low.value low.first) in
    joined high.value low.value pair.value more.value (low_digit b low.value (digit_read b (i + 1) (hex_digit_value b) low.value low.first)) low.second more.second ea eb (pairs_text (i + 2) rest more.value three.2 more.first)
  where
    three_parts : (p q r : Bool) → (p && (q && r)) ≡ true → (p ≡ true) × (q ≡ true) × (r ≡ true)
    three_parts true true r t = (refl, refl, t)
    three_parts _ _ r t = absurd cc

    low_digit : (c v : ℕ) → hex_digit_value c ≡ Some v → v < 16
    low_digit c v t = grind (arith, nat_tests)

    joined : (h l byte : ℕ) (left : List ℕ) → l < 16 → ◌≡◌ {A = Result ℕ FromHexError} (Ok (h * 16 + l)) (Ok byte) → ◌≡◌ {A = Result (List ℕ) FromHexError} (Ok (byte ∷ left)) (Ok bytes)
        → slice_index lower_digits h ≡ a → slice_index lower_digits l ≡ b → rest ≡ encode_lower left → a ∷ b ∷ rest ≡ encode_lower bytes
    joined h l byte left small eb em ea el er =
        let whole : byte ∷ left ≡ bytes = cc in
        let is : h * 16 + l ≡ byte = cc in
        let up : byte / 16 ≡ h = omega arith in
        let down : byte % 16 ≡ l = omega arith in
        let ha : slice_index lower_digits (byte / 16) ≡ a = ap (λ k. slice_index lower_digits k) up ∙ ea in
        let hb : slice_index lower_digits (byte % 16) ≡ b = ap (λ k. slice_index lower_digits k) down ∙ el in
        let parts : a ∷ b ∷ rest ≡ slice_index lower_digits (byte / 16) ∷ slice_index lower_digits (byte % 16) ∷ encode_lower left = cc in
        parts ∙ ap encode_lower whole

-- what was read
pub record IsReadHex (count : ℕ) (text bytes : List ℕ) : Type 0 where
  pub is : text ≡ encode_lower bytes
  pub long : length bytes ≡ count
  pub are : IsBytes bytes

pub read_hex-parts : (count : ℕ) (text bytes : List ℕ) → read_hex count text ≡ Some bytes → IsReadHex count text bytes
unfolding read_hex
read_hex-parts count text bytes e = by (list_all is_hex_digit text) (decode_sized text count) refl refl e
  where
    by : (c : Bool) (r : Result (List ℕ) FromHexError) → list_all is_hex_digit text ≡ c → decode_sized text count ≡ r → cond c (result_ok r) None ≡ Some bytes → IsReadHex count text bytes
    by true (Ok found) p q e =
        let same : found ≡ bytes = cc in
        let is : decode_sized text count ≡ Ok bytes = q ∙ ap Ok same in
        let long = decode_sized-ok text count bytes is in
        let whole : decode_of text ≡ Ok bytes = sym (decode_sized-twice text count long) ∙ is in
        let parts = decode_of-ok text bytes whole in
        record { is = pairs_text 0 text bytes p (sym (decode_of-even text parts.0) ∙ whole); long = omega (arith, long, parts.2); are = parts.3 }
    by _ _ p q e = absurd cc

-- ---- a byte and a word

pub hex_byte-is : (byte : ℕ) → encode_lower (byte ∷ []) ≡ hex_byte byte
unfolding encode_with
hex_byte-is byte = refl

pub hex_word-is : (word : ℕ) → encode_lower (word / 256 ∷ word % 256 ∷ []) ≡ hex_word word
unfolding encode_with
hex_word-is word = refl
