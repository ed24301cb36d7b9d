-- A line that tells a number.
use Rattle.std.specs.Prelude.{ℕ, List, ◌++◌, codes}
use Rattle.std.specs.Fmt.{decimal}

-- a name, a number, and LF
abbrev pub number_line : List ℕ → ℕ → List ℕ
number_line name number = name ++ (decimal number ++ codes "\n")
