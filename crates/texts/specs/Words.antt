-- The words of a line.
use Rattle.std.specs.Prelude.{ℕ, ◌==◌, Bool, List}
use Rattle.std.specs.List.{slice_split}

-- a space is 32
abbrev pub is_space : ℕ → Bool
is_space b = b == 32

-- the words of a line, which single spaces part
unfoldable pub words : List ℕ → List (List ℕ)
words line = slice_split is_space line
