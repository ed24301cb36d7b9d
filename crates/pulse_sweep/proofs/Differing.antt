-- How many lines two texts have in common, one line after another.
use Rattle.std.proofs.Common.{◌≡◌, ℕ, suc, ◌+◌, ◌≤◌, ◌<◌, List, [], ◌∷◌, get_or, length, true, false, refl, sym, ◌∙◌, ap, arith}
use Rattle.std.specs.List.{common_prefix_len}
use Rattle.std.specs.Str.{bytes_eq}
use Rattle.texts.specs.Lines.{lines_of}
use Rattle.pulse_sweep.specs.internal.Told.{common_lines}

-- two texts of which these are left, from line `number` on
pub record Differing (first second rest other_rest : List ℕ) (number : ℕ) : Type 0 where
  pub common : number + common_lines rest other_rest ≡ common_lines first second + 1
  pub line : get_or (lines_of rest) (common_lines rest other_rest) [] ≡ get_or (lines_of first) (common_lines first second) []
  pub other : get_or (lines_of other_rest) (common_lines rest other_rest) [] ≡ get_or (lines_of second) (common_lines first second) []
  pub room : number + length rest ≤ length first + 1

pub differing_start : (first second : List ℕ) → Differing first second first second 1
differing_start first second = record { common = omega arith; line = refl; other = refl; room = omega arith }

-- behind a line that both have
pub differing_next : (first second rest other_rest line after other other_after : List ℕ) (number : ℕ) → Differing first second rest other_rest number
    → lines_of rest ≡ line ∷ lines_of after → lines_of other_rest ≡ other ∷ lines_of other_after → bytes_eq line other ≡ true → length after < length rest
    → Differing first second after other_after (number + 1)
differing_next first second rest other_rest line after other other_after number d is other_is same shorter =
    let n = common_lines after other_after in
    let one : 1 + n ≡ suc n = omega arith in
    let more : common_lines rest other_rest ≡ suc n = rw (is, other_is, same) one in
    let at : get_or (lines_of rest) (common_lines rest other_rest) [] ≡ get_or (lines_of after) n [] = ap (λ k. get_or (lines_of rest) k []) more ∙ ap (λ (l : List (List ℕ)). get_or l (suc n) []) is in
    let other_at : get_or (lines_of other_rest) (common_lines rest other_rest) [] ≡ get_or (lines_of other_after) n [] = ap (λ k. get_or (lines_of other_rest) k []) more ∙ ap (λ (l : List (List ℕ)). get_or l (suc n) []) other_is in
    record {
      common = omega (arith, d.common, more);
      line = sym at ∙ d.line;
      other = sym other_at ∙ d.other;
      room = omega (arith, d.room, shorter);
    }

-- at lines that differ, or where one text has no line, there is none in common
pub common_none : (rest other_rest line after other other_after : List ℕ) → lines_of rest ≡ line ∷ lines_of after → lines_of other_rest ≡ other ∷ lines_of other_after
    → bytes_eq line other ≡ false → common_lines rest other_rest ≡ 0
common_none rest other_rest line after other other_after is other_is differ = rw (is, other_is, differ) refl

pub common_first : (rest other_rest : List ℕ) → lines_of rest ≡ [] → common_lines rest other_rest ≡ 0
common_first rest other_rest is = rw is refl

pub common_second : (rest other_rest : List ℕ) → lines_of other_rest ≡ [] → common_lines rest other_rest ≡ 0
common_second rest other_rest is = ap (common_prefix_len bytes_eq (lines_of rest)) is ∙ by (lines_of rest)
  where
    by : (ls : List (List ℕ)) → common_prefix_len bytes_eq ls [] ≡ 0
    by [] = refl
    by (l ∷ ls) = refl

-- what is found where none is in common
pub differing_end : (first second rest other_rest : List ℕ) (number : ℕ) → Differing first second rest other_rest number → common_lines rest other_rest ≡ 0
    → (number ≡ common_lines first second + 1) × (get_or (lines_of rest) 0 [] ≡ get_or (lines_of first) (common_lines first second) [])
    × (get_or (lines_of other_rest) 0 [] ≡ get_or (lines_of second) (common_lines first second) [])
differing_end first second rest other_rest number d none = (
  omega (arith, d.common, none),
  ap (λ k. get_or (lines_of rest) k []) (sym none) ∙ d.line,
  ap (λ k. get_or (lines_of other_rest) k []) (sym none) ∙ d.other,
)
