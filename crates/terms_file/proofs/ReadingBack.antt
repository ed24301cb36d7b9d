-- Some of the terms that a text has are read back from the text that says them.
use Rattle.std.proofs.Common.{ℕ, ◌≡◌, ◌+◌, ◌/◌, ◌%◌, ◌<◌, ◌≤◌, Bool, true, false, not, ◌==◌, nat_lt, cond, List, [], ◌∷◌, ◌++◌, length, map, drop, filter, Option, Some, None, Result, Ok, Err, codes, refl, ap, ◌∙◌, subst, append_assoc, arith}
use Rattle.std.specs.List.{All}
use Rattle.std.specs.Fmt.{decimal}
use Rattle.std.proofs.lemmas.Bool.{not-true}
use Rattle.std.proofs.lemmas.Bool.Decides.{nat_tests}
use Rattle.std.proofs.lemmas.List.Elements.{All-append, All-cons, All-from_recursion}
use Rattle.std.proofs.lemmas.List.Sums.{AllPass-from_list_all}
use Rattle.hex.specs.Hex.{lower_digits}
use Rattle.texts.specs.Decimals.{read_decimal}
use Rattle.texts.specs.Hexadecimals.{hex_digit, hex_word, read_hex_word}
use Rattle.texts.specs.Laws.{HasNoFeed}
use Rattle.texts.specs.Lines.{is_line_feed, unended, last_line, lines_of, lines_text}
use Rattle.texts.specs.Rows.{after_these, from_row, rows_from}
use Rattle.texts.proofs.LawLemmas.{decimals_are_read, lines_are_read, words_are_read}
use Rattle.texts.proofs.WordLemmas.{decimal_has_no}
use Rattle.cpu_step.specs.Lone.{is_answer}
use Rattle.terms_file.specs.declared.Term.{Term}
use Rattle.terms_file.specs.declared.Term.TheVariants.{Answer, Public}
use Rattle.terms_file.specs.declared.TermsFault.{TermsFault}
use Rattle.terms_file.specs.declared.TermsFault.TheVariants.{TooMany, NotRising}
use Rattle.terms_file.specs.Terms.{answer_of, public_of, term_of, term_place, term_rows, terms_of, term_text, terms_text}
use Rattle.terms_file.specs.Laws.{AreReadBack}

-- ---- the terms that a line may write

abbrev IsTerm : Term → Type 0
IsTerm (Answer n) = (n ≤ 15) × (is_answer n ≡ true)
IsTerm (Public a) = (a < 65536) × ((a % 2 == 0) ≡ true)

answer_is : (digits : List ℕ) (o : Option ℕ) (t : Term) → read_decimal 15 digits ≡ o → answer_of o ≡ Some t → IsTerm t
answer_is digits None t r e = absurd cc
answer_is digits (Some n) t r e = by (is_answer n) refl e
  where
    by : (b : Bool) → is_answer n ≡ b → cond b (Some (Answer n)) None ≡ Some t → IsTerm t
    by true f e =
        let same : Answer n ≡ t = cc in
        let low = (decimals_are_read 15 (omega arith) digits n).0 r in
        subst IsTerm same (low.0, f)
    by false f e = absurd cc

public_is : (digits : List ℕ) (o : Option ℕ) (t : Term) → read_hex_word digits ≡ o → public_of o ≡ Some t → IsTerm t
public_is digits None t r e = absurd cc
public_is digits (Some a) t r e = by (a % 2 == 0) refl e
  where
    by : (b : Bool) → (a % 2 == 0) ≡ b → cond b (Some (Public a)) None ≡ Some t → IsTerm t
    by true f e =
        let same : Public a ≡ t = cc in
        let low = (words_are_read digits a).0 r in
        subst IsTerm same (low.0, f)
    by false f e = absurd cc

line_is : (line : List ℕ) (t : Term) → term_of line ≡ Some t → IsTerm t
unfolding term_of
line_is line t e = by _ _ e
  where
    by : (a b : Bool) → cond a (answer_of (read_decimal 15 (drop 8 line)))
        (cond b (public_of (read_hex_word (drop 7 line))) None) ≡ Some t → IsTerm t
    by true b e = answer_is (drop 8 line) (read_decimal 15 (drop 8 line)) t refl e
    by false true e = public_is (drop 7 line) (read_hex_word (drop 7 line)) t refl e
    by false false e = absurd cc

-- and each is written as a line that it is read from
line_read : (t : Term) → IsTerm t → term_of (term_text t) ≡ Some t
unfolding term_of
line_read (Answer n) i =
    ap answer_of ((decimals_are_read 15 (omega arith) (decimal n) n).1 (i.0, refl))
    ∙ ap (λ b. cond b (Some (Answer n)) None) i.1
line_read (Public a) i =
    ap public_of ((words_are_read (hex_word a) a).1 (i.0, refl)) ∙ ap (λ b. cond b (Some (Public a)) None) i.1

-- ---- no LF in a line

abbrev IsClean : ℕ → Type 0
IsClean b = is_line_feed b ≡ false

abbrev is_clean : ℕ → Bool
is_clean b = not (is_line_feed b)

digit_clean : (d : ℕ) → d < 16 → IsClean (hex_digit d)
digit_clean d l = not-true _ (AllPass-from_list_all is_clean lower_digits refl d 0 l)

word_clean : (a : ℕ) → a < 65536 → HasNoFeed (hex_word a)
word_clean a l =
    All-from_recursion IsClean (hex_word a) (
      digit_clean (a / 256 / 16) (omega arith),
      (
        digit_clean (a / 256 % 16) (omega arith),
        (digit_clean (a % 256 / 16) (omega arith), (digit_clean (a % 256 % 16) (omega arith), tt)),
      ),
    )

text_clean : (t : Term) → IsTerm t → HasNoFeed (term_text t)
text_clean (Answer n) i =
    let low = i.0 in
    All-append IsClean (codes "answer r") (decimal n)
    (All-from_recursion IsClean (codes "answer r")
    (refl, (refl, (refl, (refl, (refl, (refl, (refl, (refl, tt)))))))))
    (decimal_has_no 10 n (omega arith) (omega (arith, low)))
text_clean (Public a) i =
    All-append IsClean (codes "public ") (hex_word a)
    (All-from_recursion IsClean (codes "public ") (refl, (refl, (refl, (refl, (refl, (refl, (refl, tt))))))))
    (word_clean a i.0)

-- ---- terms that rise from a place on

abbrev Rise : ℕ → List Term → Type 0
Rise low [] = Unit {0}
Rise low (t ∷ ts) = (low ≤ term_place t) × IsTerm t × Rise (term_place t + 1) ts

-- what a text from line n on may have
abbrev Read : ℕ → ℕ → List Term → Type 0
Read n low ts = Rise low ts × (n + length ts ≤ 271)

at_least : (place low : ℕ) → nat_lt place low ≡ false → low ≤ place
at_least place low e = grind (arith, nat_tests)

not_below : (place low : ℕ) → low ≤ place → nat_lt place low ≡ false
not_below place low l = grind (arith, nat_tests)

one_more : (n : ℕ) → n ≤ 271 → (n == 271) ≡ false → n + 1 ≤ 271
one_more n l e = grind (arith, nat_tests)

not_last : (n : ℕ) → n + 1 ≤ 271 → (n == 271) ≡ false
not_last n l = grind (arith, nat_tests)

-- a line, where what the lines behind it give is so
module _ (rest : ℕ → Result (List Term) TermsFault) (n low : ℕ) (ts : List Term)
    (behind : (next : ℕ) (more : List Term) → n + 1 ≤ 271 → rest next ≡ Ok more → Read (n + 1) next more) where
  with_rest : (r : Result (List Term) TermsFault) (t : Term) → n + 1 ≤ 271 → low ≤ term_place t → IsTerm t
      → rest (term_place t + 1) ≡ r → after_these (t ∷ []) r ≡ Ok ts → Read n low ts
  with_rest (Err fault) t m l i g e = absurd cc
  with_rest (Ok more) t m l i g e =
      let same : t ∷ more ≡ ts = cc in
      let next = behind (term_place t + 1) more m g in
      let few = next.1 in
      let fits : n + length (t ∷ more) ≤ 271 = omega (arith, few) in
      subst (Read n low) same ((l, i, next.0), fits)

  in_place : (b : Bool) (t : Term) → nat_lt (term_place t) low ≡ b → n + 1 ≤ 271 → IsTerm t
      → cond b (Err (NotRising n)) (after_these (t ∷ []) (rest (term_place t + 1))) ≡ Ok ts → Read n low ts
  in_place true t f m i e = absurd cc
  in_place false t f m i e = with_rest (rest (term_place t + 1)) t m (at_least (term_place t) low f) i refl e

  row_is : (line : List ℕ) (o : Option Term) (last : Bool) → n ≤ 271 → (n == 271) ≡ last → term_of line ≡ o
      → cond last (Err TooMany) (from_row term_rows n low o rest) ≡ Ok ts → Read n low ts
  row_is line o true l g f e = absurd cc
  row_is line None false l g f e = absurd cc
  row_is line (Some t) false l g f e = in_place (nat_lt (term_place t) low) t refl (one_more n l g) (line_is line t f) e

are_read : (lines : List (List ℕ)) (n low : ℕ) (ts : List Term) → n ≤ 271 → rows_from term_rows n low lines ≡ Ok ts
    → Read n low ts
are_read [] n low ts l e = let same : [] ≡ ts = cc in subst (Read n low) same (tt, omega (arith, l))
are_read (line ∷ lines) n low ts l e =
    row_is (λ next. rows_from term_rows (n + 1) next lines) n low ts
    (λ next more m g. are_read lines (n + 1) next more m g) line (term_of line) (n == 271) l refl refl e

-- ---- some of them

rise_from : (low high : ℕ) (ts : List Term) → low ≤ high → Rise high ts → Rise low ts
rise_from low high [] l r = tt
rise_from low high (t ∷ ts) l r = ((let h = r.0 in omega (arith, l, h)), r.1, r.2)

rise_by : (b : Bool) (low : ℕ) (t : Term) (kept : List Term) → low ≤ term_place t → IsTerm t
    → Rise (term_place t + 1) kept → Rise low (cond b (t ∷ kept) kept)
rise_by true low t kept l i r = (l, i, r)
rise_by false low t kept l i r = rise_from low (term_place t + 1) kept (omega (arith, l)) r

some_rise : (test : Term → Bool) (low : ℕ) (ts : List Term) → Rise low ts → Rise low (filter test ts)
some_rise test low [] r = tt
some_rise test low (t ∷ ts) r = rise_by (test t) low t (filter test ts) r.0 r.1 (some_rise test (term_place t + 1) ts r.2)

few_by : (b : Bool) (t : Term) (kept ts : List Term) → length kept ≤ length ts
    → length (cond b (t ∷ kept) kept) ≤ length (t ∷ ts)
few_by true t kept ts l = omega (arith, l)
few_by false t kept ts l = omega (arith, l)

some_few : (test : Term → Bool) (ts : List Term) → length (filter test ts) ≤ length ts
some_few test [] = omega arith
some_few test (t ∷ ts) = few_by (test t) t (filter test ts) ts (some_few test ts)

-- ---- read back

as_lines : (ts : List Term) → terms_text ts ≡ lines_text (map term_text ts) []
as_lines [] = refl
as_lines (t ∷ ts) = append_assoc (term_text t) (codes "\n") (terms_text ts)
    ∙ ap (λ l. term_text t ++ 10 ∷ l) (as_lines ts)

all_clean : (low : ℕ) (ts : List Term) → Rise low ts → All HasNoFeed (map term_text ts)
all_clean low [] r = All-from_recursion HasNoFeed [] tt
all_clean low (t ∷ ts) r = All-cons HasNoFeed (term_text t) (map term_text ts) (text_clean t r.1)
    (all_clean (term_place t + 1) ts r.2)

no_more : (lines : List (List ℕ)) → lines ++ [] ≡ lines
no_more [] = refl
no_more (line ∷ lines) = ap (λ l. line ∷ l) (no_more lines)

lines_are : (low : ℕ) (ts : List Term) → Rise low ts → lines_of (terms_text ts) ≡ map term_text ts
lines_are low ts r =
    let lines = map term_text ts in
    let law = lines_are_read lines [] (all_clean low ts r) (All-from_recursion IsClean [] tt) in
    ap lines_of (as_lines ts) ∙ ap (λ l. l ++ last_line (unended (lines_text lines []))) law.0
    ∙ ap (λ b. lines ++ last_line b) law.1 ∙ no_more lines

rows_are : (n low : ℕ) (ts : List Term) → n + length ts ≤ 271 → Rise low ts
    → rows_from term_rows n low (map term_text ts) ≡ Ok ts
rows_are n low [] few r = refl
rows_are n low (t ∷ ts) few r =
    let last = not_last n (omega (arith, few)) in
    let is = line_read t r.1 in
    let rises = not_below (term_place t) low r.0 in
    rw (last, is, rises) (ap (after_these (t ∷ [])) (rows_are (n + 1) (term_place t + 1) ts (omega (arith, few)) r.2))

pub are_read_back : AreReadBack
unfolding terms_of
are_read_back text terms test e =
    let read = are_read (lines_of text) 1 0 terms (omega arith) e in
    let rise = some_rise test 0 terms read.0 in
    let few = some_few test terms in
    let all = read.1 in
    ap (rows_from term_rows 1 0) (lines_are 0 (filter test terms) rise)
    ∙ rows_are 1 0 (filter test terms) (omega (arith, few, all)) rise
