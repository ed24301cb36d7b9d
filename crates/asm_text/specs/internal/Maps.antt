-- What the code's table of names holds.
use Rattle.std.specs.Prelude.{ℕ, ◌≡◌, List, Option, map, bytes_eq, position}
use Rattle.std.specs.Borrow.{Bor}
use Rattle.std.specs.BTreeMap.{BTreeMap, get_by}
use Rattle.std.specs.Cmp.Lexicographic.{slice_cmp}
use Rattle.std.specs.Ordering.{nat_cmp}
use Rattle.asm_text.specs.declared.names.Names.{Names}

-- what a map has at a name
abbrev pub map_value : BTreeMap (Bor (List ℕ)) ℕ → List ℕ → Option ℕ
map_value m name = get_by (λ k. slice_cmp nat_cmp name k.now) m

abbrev pub texts_in : List (Bor (List ℕ)) → List (List ℕ)
texts_in names = map (λ name. name.now) names

abbrev pub texts_of : Names → List (List ℕ)
texts_of names = texts_in names.texts.items

-- the map has each name's place
abbrev pub IsIndexed : Names → Type 0
IsIndexed names = (q : List ℕ) → map_value names.numbers q ≡ position (λ n. bytes_eq n q) (texts_of names)
