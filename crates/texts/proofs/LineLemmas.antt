-- Lemmas on the lines of a text.
use Rattle.std.proofs.Common.{ℕ, suc, ◌≡◌, ◌+◌, ◌-◌, ◌<◌, ◌≤◌, Bool, true, false, cond, List, [], ◌∷◌, ◌++◌, length, take, drop, get_or, Some, None, refl, ap, ◌∙◌, arith, nat_lt, position, subst, length-take-le, get_or-take}
use Rattle.std.specs.List.{All, position_or_len, before_first, after_first}
use Rattle.std.proofs.lemmas.Bool.Decides.{nat_tests}
use Rattle.std.proofs.lemmas.Slice.{between_to_end}
use Rattle.std.proofs.lemmas.List.Sums.{split_at_first, passes_at_first, fails_before_first}
use Rattle.texts.specs.Lines.{is_line_feed, onto_line, onto_end, ended_lines, unended, last_line, lines_of}

-- a line that LF ends, before more text
pub ended_lines-before : (line rest : List ℕ) → All (λ b. is_line_feed b ≡ false) line → ended_lines (line ++ 10 ∷ rest) ≡ line ∷ ended_lines rest
unfolding ended_lines
ended_lines-before [] rest clean = refl
ended_lines-before (b ∷ line) rest clean =
    let first : is_line_feed b ≡ false = clean 0 0 (omega arith) in
    rw first (ap (onto_line b) (ended_lines-before line rest (λ k d l. clean (suc k) d (omega arith))))

pub unended-before : (line rest : List ℕ) → All (λ b. is_line_feed b ≡ false) line → unended (line ++ 10 ∷ rest) ≡ unended rest
unfolding unended
unended-before [] rest clean = refl
unended-before (b ∷ line) rest clean =
    let first : is_line_feed b ≡ false = clean 0 0 (omega arith) in
    let more : All (λ b. is_line_feed b ≡ false) line = λ k d l. clean (suc k) d (omega arith) in
    rw first (ap (λ ls. onto_end b ls (unended (line ++ 10 ∷ rest))) (ended_lines-before line rest more) ∙ unended-before line rest more)

-- a line that ends at the place i
pub record IsCut (text : List ℕ) (i : ℕ) : Type 0 where
  pub within : i < length text
  pub cut : text ≡ take i text ++ (10 ∷ drop (i + 1) text)
  pub lines : ended_lines text ≡ take i text ∷ ended_lines (drop (i + 1) text)
  pub behind : unended text ≡ unended (drop (i + 1) text)

first_cut : (text : List ℕ) → position_or_len is_line_feed text < length text → IsCut text (position_or_len is_line_feed text)
first_cut text h =
    let feed : get_or text (position_or_len is_line_feed text) 0 ≡ 10 = let p = passes_at_first is_line_feed text 0 h in grind (arith, nat_tests) in
    let parts : text ≡ before_first is_line_feed text ++ (10 ∷ after_first is_line_feed text) =
    split_at_first is_line_feed text 0 h ∙ ap (λ b. before_first is_line_feed text ++ (b ∷ after_first is_line_feed text)) feed in
    record {
      within = h;
      cut = parts;
      lines = ap ended_lines parts ∙ ended_lines-before (before_first is_line_feed text) (after_first is_line_feed text) clean;
      behind = ap unended parts ∙ unended-before (before_first is_line_feed text) (after_first is_line_feed text) clean;
    }
  where
    clean : All (λ b. is_line_feed b ≡ false) (before_first is_line_feed text)
    clean k d l =
        let low : k < position_or_len is_line_feed text = omega (arith, length-take-le (position_or_len is_line_feed text) text (omega arith)) in
        ap is_line_feed (get_or-take (position_or_len is_line_feed text) text k d low) ∙ fails_before_first is_line_feed text k d low

pub cut_at : (text : List ℕ) (i : ℕ) → position is_line_feed text ≡ Some i → IsCut text i
cut_at text i e = by (nat_lt (position_or_len is_line_feed text) (length text)) refl e
  where
    by : (c : Bool) → nat_lt (position_or_len is_line_feed text) (length text) ≡ c → cond c (Some (position_or_len is_line_feed text)) None ≡ Some i → IsCut text i
    by true is some = let same : position_or_len is_line_feed text ≡ i = cc in subst (IsCut text) same (first_cut text (grind (arith, nat_tests)))
    by false is none = absurd cc

-- a text without LF
pub record HasNoLine (text : List ℕ) : Type 0 where
  pub lines : ended_lines text ≡ []
  pub behind : unended text ≡ text

pub no_feed : (text : List ℕ) → All (λ b. is_line_feed b ≡ false) text → HasNoLine text
unfolding ended_lines unended
no_feed [] clean = record { lines = refl; behind = refl }
no_feed (b ∷ text) clean =
    let first : is_line_feed b ≡ false = clean 0 0 (omega arith) in
    let more = no_feed text (λ k d l. clean (suc k) d (omega arith)) in
    record {
      lines = rw first (ap (onto_line b) more.lines);
      behind = rw first (ap (λ ls. onto_end b ls (unended text)) more.lines ∙ ap (λ t. b ∷ t) more.behind);
    }

-- what the slice behind a line that ends at i is
pub rest_at : (text : List ℕ) (i : ℕ) → take (length text - (i + 1)) (drop (i + 1) text) ≡ drop (i + 1) text
rest_at text i = let top : length text ≤ length text = omega arith in between_to_end text (i + 1) (length text) top

-- a text without LF that is not empty is one line, the last
pub one_line : (text : List ℕ) → HasNoLine text → 0 < length text → lines_of text ≡ text ∷ lines_of []
unfolding ended_lines unended
one_line text none some = ap (λ ls. ls ++ last_line (unended text)) none.lines ∙ ap last_line none.behind ∙ by text some
  where
    by : (t : List ℕ) → 0 < length t → last_line t ≡ t ∷ []
    by [] l = absurd (omega arith)
    by (b ∷ t) l = refl

pub no_line : (text : List ℕ) → position is_line_feed text ≡ None → HasNoLine text
no_line text e = by (nat_lt (position_or_len is_line_feed text) (length text)) refl e
  where
    by : (c : Bool) → nat_lt (position_or_len is_line_feed text) (length text) ≡ c → cond c (Some (position_or_len is_line_feed text)) None ≡ None → HasNoLine text
    by true is some = absurd cc
    by false is none =
        let past : length text ≤ position_or_len is_line_feed text = grind (arith, nat_tests) in
        no_feed text (λ k d l. fails_before_first is_line_feed text k d (omega arith))

-- nothing has no line
pub lines_of-empty : (text : List ℕ) → length text ≡ 0 → lines_of text ≡ []
unfolding ended_lines unended
lines_of-empty [] e = refl
lines_of-empty (b ∷ text) e = absurd (omega arith)
