-- The laws of texts.
use Rattle.std.proofs.Common.{ℕ, zero, suc, ◌≡◌, ◌/◌, ◌%◌, ◌^◌, ◌<◌, ◌≤◌, true, false, Bool, List, [], ◌∷◌, length, Option, Some, None, refl, sym, ap, ◌∙◌, cond, arith, lit<}
use Rattle.std.proofs.Math.Nat.{pow-le-pow_right}
use Rattle.std.proofs.lemmas.Bool.Decides.{nat_tests}
use Rattle.std.specs.Option.{option_map}
use Rattle.std.specs.Fmt.{decimal}
use Rattle.std.proofs.lemmas.Fmt.{length-decimal-le}
use Rattle.std.proofs.lemmas.Str.Parse.{digits_value_short}
use Rattle.std.proofs.lemmas.List.Elements.{All-head, All-tail}
use Rattle.hex.specs.Hex.{IsBytes, encode_lower}
use Rattle.texts.specs.Decimals.{number_in, read_decimal}
use Rattle.texts.specs.Hexadecimals.{hex_byte, hex_word, number_of_bytes, read_hex, read_hex_byte, read_hex_word, read_hex_key}
use Rattle.texts.specs.Lines.{is_line_feed, onto_line, onto_end, ended_lines, unended, lines_text}
use Rattle.texts.specs.Laws.{DecimalsAreRead, DigitsAreCounted, BytesAreRead, WordsAreRead, KeysAreRead, TextsAreLines, LinesAreRead, HasNoFeed}
use Rattle.texts.proofs.DecimalLemmas.{digits_model, decimal_parts, decimal_of_number, is_decimal-decimal, number_in-decimal, read_decimal-some, read_decimal-parts}
use Rattle.texts.proofs.HexLemmas.{read_hex-encode, read_hex-parts, hex_byte-is, hex_word-is}
use Rattle.texts.proofs.LineLemmas.{ended_lines-before, unended-before, no_feed}

-- ---- decimals

pub decimals_are_read : DecimalsAreRead
decimals_are_read most fits text n = (from, λ h. to h.0 h.1)
  where
    from : read_decimal most text ≡ Some n → (n ≤ most) × (text ≡ decimal n)
    from e =
        let r = read_decimal-parts most text n e in
        let low = r.low in
        let is = r.number in
        (r.low, sym (decimal_of_number text r.decimal (omega arith)) ∙ ap decimal r.number)

    to : n ≤ most → text ≡ decimal n → read_decimal most text ≡ Some n
    to low e =
        let small : n < 2 ^ 64 = omega arith in
        let same = number_in-decimal n small in
        ap (read_decimal most) e ∙ read_decimal-some most (decimal n) (is_decimal-decimal n small) (omega arith) ∙ ap Some same

pub digits_are_counted : DigitsAreCounted
digits_are_counted text n e some few = (from, to)
  where
    from : length text ≤ n → number_in text < 10 ^ n
    from long = digits_value_short digits_model text n (decimal_parts text e).digits long

    to : number_in text < 10 ^ n → length text ≤ n
    to small =
        let top : 10 ^ n ≤ 10 ^ 19 = pow-le-pow_right (lit< tt) {j = 19} (omega arith) in
        let fits : number_in text < 2 ^ 64 = omega arith in
        let is = decimal_of_number text e fits in
        omega (arith, length-decimal-le n (number_in text) some small fits, ap length is)

-- ---- hexadecimals

a_byte : (bytes : List ℕ) (byte : ℕ) → length bytes ≡ 1 → IsBytes bytes → number_of_bytes bytes ≡ byte → (byte < 256) × (bytes ≡ byte ∷ [])
a_byte (b ∷ []) byte l are e =
    let low : b < 256 = are 0 in
    let same : b ≡ byte = omega arith in
    (omega arith, ap (λ c. c ∷ []) same)
a_byte _ byte l are e = absurd (omega arith)

one_byte : (byte : ℕ) → byte < 256 → IsBytes (byte ∷ [])
one_byte byte l zero = l
one_byte byte l (suc k) = omega arith

pub bytes_are_read : BytesAreRead
bytes_are_read text byte = (λ e. from (read_hex 1 text) refl e, λ h. to h.0 h.1)
  where
    from : (o : Option (List ℕ)) → read_hex 1 text ≡ o → option_map number_of_bytes o ≡ Some byte → (byte < 256) × (text ≡ hex_byte byte)
    from None is e = absurd cc
    from (Some bytes) is e =
        let r = read_hex-parts 1 text bytes is in
        let same : number_of_bytes bytes ≡ byte = cc in
        let one = a_byte bytes byte r.long r.are same in
        (one.0, r.is ∙ ap encode_lower one.1 ∙ hex_byte-is byte)

    to : byte < 256 → text ≡ hex_byte byte → read_hex_byte text ≡ Some byte
    to small e =
        let same : number_of_bytes (byte ∷ []) ≡ byte = omega arith in
        ap read_hex_byte (e ∙ sym (hex_byte-is byte)) ∙ ap (option_map number_of_bytes) (read_hex-encode 1 (byte ∷ []) refl (one_byte byte small)) ∙ ap Some same

two_bytes : (bytes : List ℕ) (word : ℕ) → length bytes ≡ 2 → IsBytes bytes → number_of_bytes bytes ≡ word
    → (word < 65536) × (bytes ≡ word / 256 ∷ word % 256 ∷ [])
two_bytes (a ∷ b ∷ []) word l are e =
    let la : a < 256 = are 0 in
    let lb : b < 256 = are 1 in
    let ea : a ≡ word / 256 = omega arith in
    let eb : b ≡ word % 256 = omega arith in
    (omega arith, cc)
two_bytes _ word l are e = absurd (omega arith)

pub word_bytes : (word : ℕ) → word < 65536 → IsBytes (word / 256 ∷ word % 256 ∷ [])
word_bytes word l zero = omega arith
word_bytes word l (suc k) = one_byte (word % 256) (omega arith) k

pub words_are_read : WordsAreRead
words_are_read text word = (λ e. from (read_hex 2 text) refl e, λ h. to h.0 h.1)
  where
    from : (o : Option (List ℕ)) → read_hex 2 text ≡ o → option_map number_of_bytes o ≡ Some word → (word < 65536) × (text ≡ hex_word word)
    from None is e = absurd cc
    from (Some bytes) is e =
        let r = read_hex-parts 2 text bytes is in
        let same : number_of_bytes bytes ≡ word = cc in
        let two = two_bytes bytes word r.long r.are same in
        (two.0, r.is ∙ ap encode_lower two.1 ∙ hex_word-is word)

    to : word < 65536 → text ≡ hex_word word → read_hex_word text ≡ Some word
    to small e =
        let joined : number_of_bytes (word / 256 ∷ word % 256 ∷ []) ≡ word = omega arith in
        ap read_hex_word (e ∙ sym (hex_word-is word)) ∙ ap (option_map number_of_bytes) (read_hex-encode 2 (word / 256 ∷ word % 256 ∷ []) refl (word_bytes word small)) ∙ ap Some joined

pub keys_are_read : KeysAreRead
keys_are_read text key = (
  λ e. let r = read_hex-parts 16 text key e in ((r.long, r.are), r.is),
  λ h. ap read_hex_key h.1 ∙ read_hex-encode 16 key h.0.0 h.0.1,
)

-- ---- lines

pub lines_are_read : LinesAreRead
lines_are_read [] behind all clean = let none = no_feed behind clean in (none.lines, none.behind)
lines_are_read (line ∷ lines) behind all clean =
    let first = All-head HasNoFeed line lines all in
    let more = lines_are_read lines behind (All-tail HasNoFeed line lines all) clean in (
      ended_lines-before line (lines_text lines behind) first ∙ ap (λ ls. line ∷ ls) more.0,
      unended-before line (lines_text lines behind) first ∙ more.1,
    )

pub texts_are_lines : TextsAreLines
unfolding ended_lines unended
texts_are_lines [] = refl
texts_are_lines (b ∷ text) = by (is_line_feed b) refl (texts_are_lines text)
  where
    onto : (lines : List (List ℕ)) (behind : List ℕ) → b ∷ lines_text lines behind ≡ lines_text (onto_line b lines) (onto_end b lines behind)
    onto [] behind = refl
    onto (line ∷ lines) behind = refl

    by : (c : Bool) → is_line_feed b ≡ c → text ≡ lines_text (ended_lines text) (unended text)
        → b ∷ text ≡ lines_text (cond c ([] ∷ ended_lines text) (onto_line b (ended_lines text))) (cond c (unended text) (onto_end b (ended_lines text) (unended text)))
    by true e more = let is : b ≡ 10 = grind (arith, nat_tests) in ap (λ c. c ∷ text) is ∙ ap (λ t. 10 ∷ t) more
    by false e more = ap (λ t. b ∷ t) more ∙ onto (ended_lines text) (unended text)
