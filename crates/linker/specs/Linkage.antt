-- The numbers of the symbols of linked objects, as lists.
use Rattle.std.specs.Prelude.{ℕ, List, Vec, map}
use Rattle.std.specs.declared.alloc.Global.{Global}

abbrev pub numbers_in_list : Vec ℕ Global → List ℕ
numbers_in_list v = v.items

-- what lists of numbers are
abbrev pub listed_numbers : List (Vec ℕ Global) → List (List ℕ)
listed_numbers all = map numbers_in_list all
