-- Forms, and the lines that have them.
use Rattle.std.proofs.Common.{◌≡◌, ◌≢◌, ℕ, zero, suc, ◌+◌, ◌*◌, ◌-◌, ◌/◌, ◌%◌, ◌<◌, List, [], ◌∷◌, ◌++◌, length, take, drop, get_or, slice_index, slice_range, Bool, true, false, nat_lt, cond, not, ◌&&◌, ◌==◌, Option, Some, None, option_map, refl, sym, ap, ◌∙◌, subst, arith, length-drop, length-append}
use Rattle.std.proofs.lemmas.List.{take_at, get_or-drop, drop-drop}
use Rattle.std.proofs.lemmas.Bool.Decides.{nat_tests}
use Rattle.std.proofs.lemmas.Bool.{and_parts, not-false}
use Rattle.hex.specs.Hex.{IsBytes, lower_digits, encode_with, encode_lower}
use Rattle.hex.proofs.HexLemmas.{length-encode_with}
use Rattle.texts.specs.Hexadecimals.{is_hex_digit, number_of_bytes, read_hex, read_hex_word}
use Rattle.texts.proofs.HexLemmas.{read_hex-encode}
use Rattle.texts.proofs.LawLemmas.{word_bytes}
use Rattle.texts.specs.Hexadecimals.{hex_word}
use Rattle.image_text.specs.declared.ImageFault.{ImageFault}
use Rattle.image_text.specs.Refusal.{Spot, fits, has_form, is_bad, bad_digit, formed, digit_value, digits_byte, digits_bytes, digits_word}
use Rattle.image_text.specs.internal.Reading.{HasLineForm, CodedAt}

pub form_length : (form line : List ℕ) → has_form form line ≡ true → length form ≡ length line
form_length [] [] e = refl
form_length (mark ∷ form) (b ∷ line) e = let k = form_length form line (and_parts (fits mark b) (has_form form line) e).1 in omega (arith, k)
form_length _ _ e = cc

-- a line of another length has not the form
pub other_length : (form line : List ℕ) → length form ≢ length line → has_form form line ≡ false
other_length form line ne = by (has_form form line) refl
  where
    by : (c : Bool) → has_form form line ≡ c → has_form form line ≡ false
    by true e = absurd (ne (form_length form line e))
    by false e = e

-- whether a digit is bad does not hang on where the line begins
bad_none : (form line : List ℕ) (at from : ℕ) → bad_digit form line at ≡ None → bad_digit form line from ≡ None
bad_none (mark ∷ form) (b ∷ line) at from e = by (is_bad mark b) e (λ f. bad_none form line (at + 1) (from + 1) f)
  where
    by : (c : Bool) → cond c (Some at) (bad_digit form line (at + 1)) ≡ None → (bad_digit form line (at + 1) ≡ None → bad_digit form line (from + 1) ≡ None) → cond c (Some from) (bad_digit form line (from + 1)) ≡ None
    by true f r = absurd cc
    by false f r = r f
bad_none _ _ at from e = refl

pub has_form_of : (form line : List ℕ) (at : ℕ) → has_form form line ≡ true → bad_digit form line at ≡ None → HasLineForm form line
has_form_of form line at e f = record { formed = e; digits = λ from. bad_none form line at from f }

-- a line of the form leaves what comes after
pub formed_ok : (form : List ℕ) (s : Spot) (line : List ℕ) (rest : Option ImageFault) → HasLineForm form line → formed form s line rest ≡ rest
formed_ok form s line rest h = rw (h.formed, h.digits s.at) refl

-- ---- the parts of a line

head_fits : (mark b : ℕ) (form line : List ℕ) → HasLineForm (mark ∷ form) (b ∷ line) → fits mark b ≡ true
head_fits mark b form line h = (and_parts (fits mark b) (has_form form line) h.formed).0

tail_bad : (mark b : ℕ) (form line : List ℕ) (at : ℕ) → bad_digit (mark ∷ form) (b ∷ line) at ≡ None → (is_bad mark b ≡ false) × (bad_digit form line (at + 1) ≡ None)
tail_bad mark b form line at e = by (is_bad mark b) refl e
  where
    by : (c : Bool) → is_bad mark b ≡ c → cond c (Some at) (bad_digit form line (at + 1)) ≡ None → (is_bad mark b ≡ false) × (bad_digit form line (at + 1) ≡ None)
    by true f g = absurd cc
    by false f g = (f, g)

tail_form : (mark b : ℕ) (form line : List ℕ) → HasLineForm (mark ∷ form) (b ∷ line) → HasLineForm form line
tail_form mark b form line h = record {
  formed = (and_parts (fits mark b) (has_form form line) h.formed).1;
  digits = λ at. bad_none form line 1 at (tail_bad mark b form line 0 (h.digits 0)).1;
}

pub nothing_left : (line : List ℕ) → HasLineForm [] line → line ≡ []
nothing_left [] h = refl
nothing_left (b ∷ line) h = let e = h.formed in absurd cc

-- a word of the form
abbrev no_marks : List ℕ → Bool
no_marks [] = true
no_marks (c ∷ text) = not (c == 35) && no_marks text

pub record AfterWord (text form line : List ℕ) : Type 0 where
  pub rest : List ℕ
  pub is : line ≡ text ++ rest
  pub next : HasLineForm form rest

pub after_word : (text form line : List ℕ) → no_marks text ≡ true → HasLineForm (text ++ form) line → AfterWord text form line
after_word [] form line n h = record { rest = line; is = refl; next = h }
after_word (c ∷ text) form [] n h = let e = h.formed in absurd cc
after_word (c ∷ text) form (b ∷ line) n h =
    let unmarked = (and_parts (not (c == 35)) (no_marks text) n).0 in
    let w = after_word text form line (and_parts (not (c == 35)) (no_marks text) n).1 (tail_form c b (text ++ form) line h) in
    let same = own (c == 35) refl unmarked (head_fits c b (text ++ form) line h) in
    record { rest = w.rest; is = let k = w.is in let m : b ∷ line ≡ c ∷ (text ++ w.rest) = cc in m; next = w.next }
  where
    own : (k : Bool) → (c == 35) ≡ k → not k ≡ true → cond k (not (b == 32)) (b == c) ≡ true → b ≡ c
    own true e u f = absurd cc
    own false e u f = grind (arith, nat_tests)

-- ---- digits

-- the sixteen digits
pub digit_at : (n : ℕ) → n < 16 → get_or lower_digits n 0 ≡ cond (nat_lt n 10) (48 + n) (87 + n)
digit_at (suc (suc (suc (suc (suc (suc (suc (suc (suc (suc (suc (suc (suc (suc (suc (suc n)))))))))))))))) l = absurd (omega arith)
digit_at _ l = refl

-- a digit is the text of its value
pub digit_is : (c : ℕ) → is_hex_digit c ≡ true → (digit_value c < 16) × (get_or lower_digits (digit_value c) 0 ≡ c)
digit_is c e =
    let small : digit_value c < 16 = grind (arith, nat_tests) in
    let same : cond (nat_lt (digit_value c) 10) (48 + digit_value c) (87 + digit_value c) ≡ c = grind (arith, nat_tests) in
    (small, digit_at (digit_value c) small ∙ same)

-- a number below 16 is the value of its digit
value_back : (n : ℕ) → n < 16 → digit_value (get_or lower_digits n 0) ≡ n
value_back (suc (suc (suc (suc (suc (suc (suc (suc (suc (suc (suc (suc (suc (suc (suc (suc n)))))))))))))))) l = absurd (omega arith)
value_back _ l = refl

-- the byte of two digits, and the bytes of pairs of digits
byte_back : (line rest : List ℕ) (from b : ℕ) → b < 256 → drop from line ≡ get_or lower_digits (b / 16) 0 ∷ get_or lower_digits (b % 16) 0 ∷ rest → digits_byte from line ≡ b
unfolding digits_byte
byte_back line rest from b l e =
    let here : from ≡ from + 0 = omega arith in
    let high = ap digit_value (ap (slice_index line) here ∙ sym (get_or-drop from line 0 0) ∙ ap (λ xs. get_or xs 0 0) e) ∙ value_back (b / 16) (omega (arith, l)) in
    let low = ap digit_value (sym (get_or-drop from line 1 0) ∙ ap (λ xs. get_or xs 1 0) e) ∙ value_back (b % 16) (omega arith) in
    let joined : 16 * (b / 16) + b % 16 ≡ b = omega arith in
    ap (λ n. 16 * n + digit_value (slice_index line (from + 1))) high ∙ ap (λ n. 16 * (b / 16) + n) low ∙ joined

bytes_back : (n : ℕ) (bytes rest line : List ℕ) (from : ℕ) → IsBytes bytes → length bytes ≡ n → drop from line ≡ encode_lower bytes ++ rest → digits_bytes from n line ≡ bytes
unfolding encode_with digits_bytes
bytes_back zero [] rest line from are len e = refl
bytes_back (suc n) (b ∷ bytes) rest line from are len e =
    let more = bytes_back n bytes rest line (from + 2) (λ k. are (suc k)) (omega (arith, len)) (sym (drop-drop 2 from line) ∙ ap (drop 2) e) in
    ap (λ c. c ∷ digits_bytes (from + 2) n line) (byte_back line (encode_lower bytes ++ rest) from b (are 0) e) ∙ ap (λ bs. b ∷ bs) more
bytes_back zero (b ∷ bytes) rest line from are len e = absurd (omega (arith, len))
bytes_back (suc n) [] rest line from are len e = absurd (omega (arith, len))

-- bytes that stand as digits at a place
pub coded_at : (line rest : List ℕ) (from n : ℕ) (bytes : List ℕ) → 0 < n → IsBytes bytes → length bytes ≡ n → drop from line ≡ encode_lower bytes ++ rest
    → CodedAt line from n × (digits_bytes from n line ≡ bytes)
coded_at line rest from n bytes some are len e =
    let twice : length (encode_lower bytes) ≡ 2 * n = omega (arith, length-encode_with lower_digits bytes, len) in
    let range : from + 2 * n - from ≡ 2 * n = omega arith in
    let part : slice_range line from (from + 2 * n) ≡ encode_lower bytes = rw range (ap (take (2 * n)) e ∙ take_at (encode_lower bytes) rest (2 * n) twice) in
    let value : digits_bytes from n line ≡ bytes = bytes_back n bytes rest line from are len e in (
      record {
        within = omega (arith, length-drop from line, ap length e, length-append (encode_lower bytes) rest, twice, some);
        are_bytes = subst IsBytes (sym value) are;
        count = ap length value ∙ len;
        text = part ∙ ap encode_lower (sym value);
      },
      value,
    )

-- ---- digits of a form

abbrev pub marks : ℕ → List ℕ
marks zero = []
marks (suc n) = 35 ∷ 35 ∷ marks n

digit_head : (b : ℕ) (form line : List ℕ) → HasLineForm (35 ∷ form) (b ∷ line) → is_hex_digit b ≡ true
digit_head b form line h = not-false (is_hex_digit b) (tail_bad 35 b form line 0 (h.digits 0)).0

pub bytes_cons : (b : ℕ) (bytes : List ℕ) → b < 256 → IsBytes bytes → IsBytes (b ∷ bytes)
bytes_cons b bytes l h zero = l
bytes_cons b bytes l h (suc k) = h k

pub bytes_nil : IsBytes []
bytes_nil k = omega arith

pub record AfterDigits (n : ℕ) (form line : List ℕ) : Type 0 where
  pub bytes : List ℕ
  pub rest : List ℕ
  pub is : line ≡ encode_lower bytes ++ rest
  pub are : IsBytes bytes
  pub count : length bytes ≡ n
  pub next : HasLineForm form rest

-- the digits of so many bytes
pub after_digits : (n : ℕ) (form line : List ℕ) → HasLineForm (marks n ++ form) line → AfterDigits n form line
unfolding encode_with
after_digits zero form line h = record { bytes = []; rest = line; is = refl; are = bytes_nil; count = refl; next = h }
after_digits (suc n) form [] h = absurd (let e = h.formed in cc)
after_digits (suc n) form (a ∷ []) h = absurd (let e = (tail_form 35 a (35 ∷ (marks n ++ form)) [] h).formed in cc)
after_digits (suc n) form (a ∷ b ∷ line) h =
    let second = tail_form 35 a (35 ∷ (marks n ++ form)) (b ∷ line) h in
    let r = after_digits n form line (tail_form 35 b (marks n ++ form) line second) in
    let da = digit_is a (digit_head a (35 ∷ (marks n ++ form)) (b ∷ line) h) in
    let db = digit_is b (digit_head b (marks n ++ form) line second) in
    let byte : ℕ = 16 * digit_value a + digit_value b in
    let high : byte / 16 ≡ digit_value a = omega (arith, da.0, db.0) in
    let low : byte % 16 ≡ digit_value b = omega (arith, da.0, db.0) in
    let ea = ap (λ (k : ℕ). get_or lower_digits k 0) high ∙ da.1 in
    let eb = ap (λ (k : ℕ). get_or lower_digits k 0) low ∙ db.1 in
    let all : a ∷ b ∷ line ≡ get_or lower_digits (byte / 16) 0 ∷ get_or lower_digits (byte % 16) 0 ∷ (encode_lower r.bytes ++ r.rest) = cc (ea, eb, r.is) in
    record { bytes = byte ∷ r.bytes; rest = r.rest; is = all; are = bytes_cons byte r.bytes (omega (arith, da.0, db.0)) r.are; count = let k = r.count in omega (arith, k); next = r.next }

-- ---- words of a form

pub record AfterFour (form line : List ℕ) : Type 0 where
  pub word : ℕ
  pub rest : List ℕ
  pub is : line ≡ hex_word word ++ rest
  pub small : word < 65536
  pub next : HasLineForm form rest

-- the four digits of a word
pub after_four : (form line : List ℕ) → HasLineForm (35 ∷ 35 ∷ 35 ∷ 35 ∷ form) line → AfterFour form line
unfolding encode_with
after_four form line h = by d.bytes d.is d.are d.count
  where
    d : AfterDigits 2 form line
    d = after_digits 2 form line h

    by : (bytes : List ℕ) → line ≡ encode_lower bytes ++ d.rest → IsBytes bytes → length bytes ≡ 2 → AfterFour form line
    by (a ∷ b ∷ []) is are e =
        let high : a < 256 = are 0 in
        let low : b < 256 = are 1 in
        let first : (256 * a + b) / 256 ≡ a = omega arith in
        let last : (256 * a + b) % 256 ≡ b = omega arith in
        let same : (256 * a + b) / 256 ∷ (256 * a + b) % 256 ∷ [] ≡ a ∷ b ∷ [] = cc in
        record { word = 256 * a + b; rest = d.rest; is = is ∙ ap (λ (l : List ℕ). encode_lower l ++ d.rest) (sym same); small = omega arith; next = d.next }
    by _ is are e = absurd (omega arith)

-- a word at a place of a line
pub word_here : (line rest : List ℕ) (from w : ℕ) → w < 65536 → drop from line ≡ hex_word w ++ rest → CodedAt line from 2 × (digits_word from line ≡ w)
unfolding encode_with digits_word digits_bytes
word_here line rest from w l e =
    let c = coded_at line rest from 2 (w / 256 ∷ w % 256 ∷ []) (omega arith) (word_bytes w l) refl e in
    let joined : 256 * (w / 256) + w % 256 ≡ w = omega arith in
    (c.0, ap (λ bs. 256 * get_or bs 0 0 + get_or bs 1 0) c.1 ∙ joined)

-- so are they read
pub coded_read : (line : List ℕ) (from n : ℕ) → CodedAt line from n → read_hex n (slice_range line from (from + 2 * n)) ≡ Some (digits_bytes from n line)
coded_read line from n c = ap (read_hex n) c.text ∙ read_hex-encode n (digits_bytes from n line) c.count c.are_bytes

two_bytes : (high low : ℕ) → number_of_bytes (high ∷ low ∷ []) ≡ 256 * high + low
two_bytes high low = omega arith

pub word_read : (line : List ℕ) (from : ℕ) → CodedAt line from 2 → read_hex_word (slice_range line from (from + 4)) ≡ Some (digits_word from line)
unfolding digits_word digits_bytes
word_read line from c = ap (option_map number_of_bytes) (coded_read line from 2 c) ∙ ap Some (two_bytes (digits_byte from line) (digits_byte (from + 2) line))
