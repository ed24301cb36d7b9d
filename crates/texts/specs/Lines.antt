-- The lines of a text, each without the LF that ends it.
use Rattle.std.specs.Prelude.{ℕ, ◌==◌, Bool, if◌then◌else◌, List, [], ◌∷◌, ◌++◌}

-- LF is 10
abbrev pub is_line_feed : ℕ → Bool
is_line_feed b = b == 10

-- a byte before the lines of what follows it: it begins the first, where LF ends one
abbrev pub onto_line : ℕ → List (List ℕ) → List (List ℕ)
onto_line b [] = []
onto_line b (line ∷ lines) = (b ∷ line) ∷ lines

-- the lines that LF ends
unfoldable pub ended_lines : List ℕ → List (List ℕ)
ended_lines [] = []
ended_lines (b ∷ text) = if is_line_feed b then [] ∷ ended_lines text else onto_line b (ended_lines text)

-- a byte before what stands behind the last LF: it is part of that, where LF ends no line
abbrev pub onto_end : ℕ → List (List ℕ) → List ℕ → List ℕ
onto_end b [] behind = b ∷ behind
onto_end b (line ∷ lines) behind = behind

-- what stands behind the last LF
unfoldable pub unended : List ℕ → List ℕ
unended [] = []
unended (b ∷ text) = if is_line_feed b then unended text else onto_end b (ended_lines text) (unended text)

-- a last line that lacks its LF, where there is one
abbrev pub last_line : List ℕ → List (List ℕ)
last_line [] = []
last_line (b ∷ line) = (b ∷ line) ∷ []

-- the lines, of which the last may lack its LF
abbrev pub lines_of : List ℕ → List (List ℕ)
lines_of text = ended_lines text ++ last_line (unended text)

-- the text of lines that LF ends, and of what stands behind them
abbrev pub lines_text : List (List ℕ) → List ℕ → List ℕ
lines_text [] behind = behind
lines_text (line ∷ lines) behind = line ++ 10 ∷ lines_text lines behind
