-- Lines of values: they have their forms, and their values are read off them.
use Rattle.std.proofs.Common.{◌≡◌, ℕ, zero, suc, ◌+◌, ◌/◌, ◌%◌, ◌<◌, ◌≤◌, List, [], ◌∷◌, ◌++◌, length, get_or, codes, Bool, true, false, not, ◌&&◌, ◌==◌, Some, refl, sym, ap, ◌∙◌, subst, arith, lit<}
use Rattle.std.proofs.lemmas.List.{append-nil, append_cancel_left}
use Rattle.std.proofs.lemmas.Bool.{and_parts, not-true, agree_below_at}
use Rattle.std.proofs.lemmas.Bool.Decides.{nat_tests}
use Rattle.hex.specs.Hex.{IsBytes, lower_digits, encode_with, encode_lower}
use Rattle.mod_layout.specs.declared.Section.{Section}
use Rattle.mod_layout.specs.declared.Module.{Module}
use Rattle.texts.specs.Lines.{is_line_feed, ended_lines, unended}
use Rattle.texts.proofs.LawLemmas.{decimals_are_read, word_bytes}
use Rattle.image_text.specs.declared.numbers.TheConstants.{MAX_COUNT}
use Rattle.std.specs.Fmt.{decimal}
use Rattle.std.specs.Char.{is_ascii_digit}
use Rattle.std.proofs.lemmas.Fmt.{digits_decimal}
use Rattle.texts.proofs.DecimalLemmas.{digits_model}
use Rattle.texts.proofs.LineLemmas.{ended_lines-before, unended-before}
use Rattle.std.specs.List.{All, list_all}
use Rattle.std.proofs.lemmas.List.Sums.{AllPass-from_list_all}
use Rattle.texts.specs.Hexadecimals.{hex_word}
use Rattle.image_text.specs.ImageText.{line_before, key_line, handler_line, count_line, module_line, row_line}
use Rattle.image_text.specs.Refusal.{key_form, handler_form, module_form, row_form, fits, is_bad, digits_bytes, digits_word, section_at, announced_count}
use Rattle.image_text.specs.internal.Reading.{HasLineForm}
use Rattle.image_text.proofs.FormLemmas.{marks, word_here, coded_at}

-- ---- lines

abbrev pub no_lf : List ℕ → Bool
no_lf line = list_all (λ b. not (b == 10)) line

has_no_feed : (line : List ℕ) → no_lf line ≡ true → All (λ b. is_line_feed b ≡ false) line
has_no_feed line e k d l = not-true (get_or line k d == 10) (AllPass-from_list_all (λ b. not (b == 10)) line e k d l)

pub lines_of : (line rest : List ℕ) → no_lf line ≡ true → ended_lines (line_before line rest) ≡ line ∷ ended_lines rest
lines_of line rest e = ended_lines-before line rest (has_no_feed line e)

pub tail_of : (line rest : List ℕ) → no_lf line ≡ true → unended (line_before line rest) ≡ unended rest
tail_of line rest e = unended-before line rest (has_no_feed line e)

-- equal texts begin with equal lines
pub line_one : (k l r s : List ℕ) → no_lf k ≡ true → no_lf l ≡ true → line_before k r ≡ line_before l s → (k ≡ l) × (r ≡ s)
line_one k l r s p q e =
    let both : k ∷ ended_lines r ≡ l ∷ ended_lines s = sym (lines_of k r p) ∙ ap ended_lines e ∙ lines_of l s q in
    let same : k ≡ l = cc in
    let ends : 10 ∷ r ≡ 10 ∷ s = append_cancel_left l (10 ∷ r) (10 ∷ s) (sym (ap (λ (x : List ℕ). line_before x r) same) ∙ e) in
    let rest : r ≡ s = cc in
    (same, rest)

-- ---- forms

pub record Lined (form line : List ℕ) : Type 0 where
  pub has : HasLineForm form line
  pub plain : no_lf line ≡ true

lined_nil : Lined [] []
lined_nil = record { has = record { formed = refl; digits = λ at. refl }; plain = refl }

lined_cons : (mark b : ℕ) (form line : List ℕ) → fits mark b ≡ true → is_bad mark b ≡ false → (b == 10) ≡ false → Lined form line → Lined (mark ∷ form) (b ∷ line)
lined_cons mark b form line f g n h = let k = h.has in record {
  has = record { formed = rw f (k.formed); digits = λ at. rw g (k.digits (at + 1)) };
  plain = rw n h.plain;
}

abbrev is_word : List ℕ → Bool
is_word [] = true
is_word (c ∷ text) = (not (c == 35) && not (c == 10)) && is_word text

lined_word : (text form line : List ℕ) → is_word text ≡ true → Lined form line → Lined (text ++ form) (text ++ line)
lined_word [] form line w h = h
lined_word (c ∷ text) form line w h =
    let p = and_parts (not (c == 35) && not (c == 10)) (is_word text) w in
    let q = and_parts (not (c == 35)) (not (c == 10)) p.0 in
    let unmarked = not-true (c == 35) q.0 in
    let own : (c == c) ≡ true = grind (arith, nat_tests) in
    lined_cons c c (text ++ form) (text ++ line) (rw unmarked own) (rw unmarked refl) (not-true (c == 10) q.1) (lined_word text form line p.1 h)

abbrev digit_test : ℕ → Bool
digit_test d = fits 35 (get_or lower_digits d 0) && (not (is_bad 35 (get_or lower_digits d 0)) && not (get_or lower_digits d 0 == 10))

lined_digit : (d : ℕ) (form line : List ℕ) → d < 16 → Lined form line → Lined (35 ∷ form) (get_or lower_digits d 0 ∷ line)
lined_digit d form line l h =
    let t = agree_below_at digit_test (λ n. true) 16 d refl l in
    let p = and_parts (fits 35 (get_or lower_digits d 0)) (not (is_bad 35 (get_or lower_digits d 0)) && not (get_or lower_digits d 0 == 10)) t in
    let q = and_parts (not (is_bad 35 (get_or lower_digits d 0))) (not (get_or lower_digits d 0 == 10)) p.1 in
    lined_cons 35 (get_or lower_digits d 0) form line p.0 (not-true (is_bad 35 (get_or lower_digits d 0)) q.0) (not-true (get_or lower_digits d 0 == 10) q.1) h

lined_bytes : (n : ℕ) (bytes form line : List ℕ) → length bytes ≡ n → IsBytes bytes → Lined form line → Lined (marks n ++ form) (encode_lower bytes ++ line)
unfolding encode_with
lined_bytes zero [] form line e b h = h
lined_bytes (suc n) (x ∷ bytes) form line e b h =
    let small : x < 256 = b 0 in
    lined_digit (x / 16) (35 ∷ (marks n ++ form)) (get_or lower_digits (x % 16) 0 ∷ (encode_lower bytes ++ line)) (omega arith)
    (lined_digit (x % 16) (marks n ++ form) (encode_lower bytes ++ line) (omega arith)
    (lined_bytes n bytes form line (omega (arith, e)) (λ k. b (suc k)) h))
lined_bytes _ _ form line e b h = absurd (omega arith)

lined_last : (n : ℕ) (bytes : List ℕ) → length bytes ≡ n → IsBytes bytes → Lined (marks n) (encode_lower bytes)
lined_last n bytes e b = subst (λ (f : List ℕ). Lined f (encode_lower bytes)) (append-nil (marks n)) (subst (Lined (marks n ++ [])) (append-nil (encode_lower bytes)) (lined_bytes n bytes [] [] e b lined_nil))

lined_four : (w : ℕ) (form line : List ℕ) → w < 65536 → Lined form line → Lined (35 ∷ 35 ∷ 35 ∷ 35 ∷ form) (hex_word w ++ line)
unfolding encode_with
lined_four w form line l h = lined_bytes 2 (w / 256 ∷ w % 256 ∷ []) form line refl (word_bytes w l) h

-- ---- lines of values

pub record KeyText (key : List ℕ) : Type 0 where
  pub lined : Lined key_form (key_line key)
  pub key_is : digits_bytes 4 16 (key_line key) ≡ key

pub key_text : (key : List ℕ) → length key ≡ 16 → IsBytes key → KeyText key
key_text key e b = record {
  lined = lined_word (codes "key ") (marks 16) (encode_lower key) refl (lined_last 16 key e b);
  key_is = (coded_at (key_line key) [] 4 16 key (omega arith) b e (sym (append-nil (encode_lower key)))).1;
}

pub record HandlerText (sp : ℕ) : Type 0 where
  pub lined : Lined handler_form (handler_line sp)
  pub sp_is : digits_word 8 (handler_line sp) ≡ sp

pub handler_text : (sp : ℕ) → sp < 65536 → HandlerText sp
unfolding encode_with
handler_text sp l = record {
  lined = lined_word (codes "handler ") (marks 2) (hex_word sp) refl (lined_last 2 (sp / 256 ∷ sp % 256 ∷ []) refl (word_bytes sp l));
  sp_is = (word_here (handler_line sp) [] 8 sp l (sym (append-nil (hex_word sp)))).1;
}

pub record RowText (at : ℕ) (row : List ℕ) : Type 0 where
  pub lined : Lined row_form (row_line at row)
  pub at_is : digits_word 3 (row_line at row) ≡ at
  pub row_is : digits_bytes 8 16 (row_line at row) ≡ row

pub text_of_row : (at : ℕ) (row : List ℕ) → at < 65536 → length row ≡ 16 → IsBytes row → RowText at row
unfolding encode_with
text_of_row at row l e b = record {
  lined = lined_word (codes "at ") (marks 2 ++ (32 ∷ marks 16)) (hex_word at ++ (32 ∷ encode_lower row)) refl
      (lined_four at (32 ∷ marks 16) (32 ∷ encode_lower row) l
      (lined_word (32 ∷ []) (marks 16) (encode_lower row) refl (lined_last 16 row e b)));
  at_is = (word_here (row_line at row) (32 ∷ encode_lower row) 3 at l refl).1;
  row_is = (coded_at (row_line at row) [] 8 16 row (omega arith) b e (sym (append-nil (encode_lower row)))).1;
}

pub record IsSmall (m : Module) : Type 0 where
  pub vendor : m.vendor < 65536
  pub text_start : m.text.start < 65536
  pub text_end : m.text.end < 65536
  pub ram_start : m.ram.start < 65536
  pub ram_end : m.ram.end < 65536

pub record ModuleText (m : Module) : Type 0 where
  pub lined : Lined module_form (module_line m)
  pub vendor_is : digits_word 7 (module_line m) ≡ m.vendor
  pub text_is : section_at 12 (module_line m) ≡ m.text
  pub ram_is : section_at 22 (module_line m) ≡ m.ram

same_section : (a b : ℕ) (s : Section) → a ≡ s.start → b ≡ s.end → (λ (x : Section). x) record { start = a; end = b } ≡ s
same_section a b s e f = rw (e, f) refl

pub text_of_module : (m : Module) → IsSmall m → ModuleText m
unfolding encode_with
text_of_module m k =
    let a = m.text.start in
    let b = m.text.end in
    let c = m.ram.start in
    let d = m.ram.end in
    let f4 = marks 2 in
    let f3 = marks 2 ++ (32 ∷ f4) in
    let f2 = marks 2 ++ (32 ∷ f3) in
    let f1 = marks 2 ++ (32 ∷ f2) in
    let t4 = hex_word d in
    let t3 = hex_word c ++ (32 ∷ t4) in
    let t2 = hex_word b ++ (32 ∷ t3) in
    let t1 = hex_word a ++ (32 ∷ t2) in
    let l4 : Lined f4 t4 = lined_last 2 (d / 256 ∷ d % 256 ∷ []) refl (word_bytes d k.ram_end) in
    let l3 : Lined f3 t3 = lined_four c (32 ∷ f4) (32 ∷ t4) k.ram_start (lined_word (32 ∷ []) f4 t4 refl l4) in
    let l2 : Lined f2 t2 = lined_four b (32 ∷ f3) (32 ∷ t3) k.text_end (lined_word (32 ∷ []) f3 t3 refl l3) in
    let l1 : Lined f1 t1 = lined_four a (32 ∷ f2) (32 ∷ t2) k.text_start (lined_word (32 ∷ []) f2 t2 refl l2) in
    record {
      lined = lined_word (codes "module ") (marks 2 ++ (32 ∷ f1)) (hex_word m.vendor ++ (32 ∷ t1)) refl (lined_four m.vendor (32 ∷ f1) (32 ∷ t1) k.vendor (lined_word (32 ∷ []) f1 t1 refl l1));
      vendor_is = (word_here (module_line m) (32 ∷ t1) 7 m.vendor k.vendor refl).1;
      text_is = same_section _ _ m.text (word_here (module_line m) (32 ∷ t2) 12 a k.text_start refl).1 (word_here (module_line m) (32 ∷ t3) 17 b k.text_end refl).1;
      ram_is = same_section _ _ m.ram (word_here (module_line m) (32 ∷ t4) 22 c k.ram_start refl).1 (word_here (module_line m) [] 27 d k.ram_end refl).1;
    }

pub record CountText (n : ℕ) : Type 0 where
  pub plain : no_lf (count_line n) ≡ true
  pub count_is : announced_count (count_line n) ≡ Some n

digits_plain : (text : List ℕ) → list_all is_ascii_digit text ≡ true → no_lf text ≡ true
digits_plain [] e = refl
digits_plain (b ∷ text) e =
    let p = and_parts (is_ascii_digit b) (list_all is_ascii_digit text) e in
    let here : (b == 10) ≡ false = let d = p.0 in grind (arith, nat_tests) in
    rw here (digits_plain text p.1)

pub text_of_count : (n : ℕ) → n ≤ 32 → CountText n
text_of_count n l = record {
  plain = digits_plain (decimal n) (digits_decimal digits_model n (omega arith));
  count_is = (decimals_are_read MAX_COUNT (lit< tt) (decimal n) n).1 (l, refl);
}
