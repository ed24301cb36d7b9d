-- The rows of a text: a line each, at places that rise.
use Rattle.std.specs.Prelude.{ℕ, ◌+◌, ◌==◌, nat_lt, if◌then◌else◌, List, [], ◌∷◌, ◌++◌, Option, Some, None, Result, Ok, Err}
use Rattle.texts.specs.Lines.{lines_of}

-- the row that a line writes, its place, the least place of the row behind it, the most lines, and the refusals of a
-- line more, of a line of another form and of one whose place is too low
pub record Rows (X F : Type 0) : Type 0 where
  pub row_of : List ℕ → Option X
  pub place : X → ℕ
  pub behind : X → ℕ
  pub most : ℕ
  pub too_many : F
  pub no_row : ℕ → F
  pub not_rising : ℕ → F

-- what was read, after these
abbrev pub after_these : {X F : Type 0} → List X → Result (List X) F → Result (List X) F
after_these before (Ok rows) = Ok (before ++ rows)
after_these before (Err fault) = Err fault

-- line n, whose place may not be below `low`; `rest` is what the lines behind it give
abbrev pub from_row : {X F : Type 0} → Rows X F → ℕ → ℕ → Option X → (ℕ → Result (List X) F) → Result (List X) F
from_row rows n low None rest = Err (rows.no_row n)
from_row rows n low (Some x) rest = if nat_lt (rows.place x) low then Err (rows.not_rising n) else after_these (x ∷ []) (rest (rows.behind x))

-- the lines from line n on
abbrev pub rows_from : {X F : Type 0} → Rows X F → ℕ → ℕ → List (List ℕ) → Result (List X) F
rows_from rows n low [] = Ok []
rows_from rows n low (line ∷ lines) =
    if n == rows.most + 1 then Err rows.too_many else from_row rows n low (rows.row_of line) (λ next. rows_from rows (n + 1) next lines)

-- what a text gives, line by line from 1
abbrev pub rows_of : {X F : Type 0} → Rows X F → List ℕ → Result (List X) F
rows_of rows text = rows_from rows 1 0 (lines_of text)
