-- A row: one pulse, two runs.
use Rattle.std.specs.Prelude.{ℕ, ◌+◌, List, [], ◌++◌, get_or, codes, if◌then◌else◌, Option, Some, None}
use Rattle.std.specs.Fmt.{decimal}
use Rattle.std.specs.List.{common_prefix_len}
use Rattle.std.specs.Str.{bytes_eq}
use Rattle.texts.specs.Lines.{lines_of}
use Rattle.pulse_sweep.specs.declared.columns.Columns.{Columns}

-- a number, or `-` where there is none
abbrev pub number_or_dash : Option ℕ → List ℕ
number_or_dash None = codes "-"
number_or_dash (Some n) = decimal n

-- a label, and a number of each run
abbrev pub both_text : List ℕ → Option ℕ → Option ℕ → List ℕ
both_text label a b = label ++ codes " " ++ number_or_dash a ++ codes " " ++ number_or_dash b

-- `pulse C begins B B leave L L out O O`
abbrev pub columns_text : ℕ → Columns → Columns → List ℕ
columns_text c a b =
    codes "pulse " ++ decimal c ++ both_text (codes " begins") a.begins b.begins ++ both_text (codes " leave") a.leaves b.leaves ++ both_text (codes " out") a.sends b.sends

-- the first lines that differ of two texts, numbered from 1, and each on a line of its own
abbrev pub difference : List (List ℕ) → List (List ℕ) → List ℕ
difference a b =
    let n = common_prefix_len bytes_eq a b in
    codes " line " ++ decimal (n + 1) ++ codes "\n1 " ++ get_or a n [] ++ codes "\n2 " ++ get_or b n [] ++ codes "\n"

-- whether two traces are the same, or where they differ
abbrev pub ending : List ℕ → List ℕ → List ℕ
ending a b = if bytes_eq a b then codes " same\n" else difference (lines_of a) (lines_of b)
