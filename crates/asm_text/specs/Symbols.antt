-- The symbols of a source: local labels in their order, then the other names by first appearance.
use Rattle.std.specs.Prelude.{ℕ, zero, suc, ◌==◌, Bool, true, false, not, List, [], ◌∷◌, ◌++◌, map, filter, fold, position, slice_get, Option, Some, None, is_some, option_map}
use Rattle.std.specs.List.{list_any, filter_map}
use Rattle.asm_text.specs.declared.placing.Spot.{Spot}
use Rattle.asm_line.specs.declared.statement.Statement.{Statement}
use Rattle.asm_line.specs.declared.statement.Statement.TheVariants.{Global}
use Rattle.asm_text.specs.Parts.{SymbolValue}
use Rattle.asm_text.specs.Placing.{Placed, spot_of}

abbrev pub says_global : ℕ → Statement ℕ → Bool
says_global name (Global other) = other == name
says_global name _ = false

-- whether some line calls the name global
abbrev pub is_global_name : List (Statement ℕ) → ℕ → Bool
is_global_name statements name = list_any (says_global name) statements

-- the place of a number in a list
abbrev pub symbol_number : List ℕ → ℕ → Option ℕ
symbol_number order k = position (λ j. j == k) order

-- each number once, where it comes first
abbrev pub once_by : Bool → List ℕ → ℕ → List ℕ
once_by true order k = order
once_by false order k = order ++ k ∷ []

abbrev pub once : List ℕ → ℕ → List ℕ
once order k = once_by (is_some (symbol_number order k)) order k

-- the numbers below n
abbrev pub below : ℕ → List ℕ
below zero = []
below (suc n) = below n ++ n ∷ []

-- the labels that no line calls global
abbrev pub local_labels : List (Statement ℕ) → List ℕ → List ℕ
local_labels statements labels = filter (λ k. not (is_global_name statements k)) labels

-- the names of the symbols, by their numbers, of a source of so many names
unfoldable pub order_of : List (Statement ℕ) → Placed → ℕ → List ℕ
order_of statements p names = fold once (fold once [] (local_labels statements p.labels)) (below names)

-- the symbol of a name
abbrev pub symbol_by : Bool → List ℕ → Option Spot → SymbolValue
symbol_by global name None = record { name = name; global = true; home = None; value = 0 }
symbol_by global name (Some spot) = record { name = name; global = global; home = Some spot.section; value = spot.offset }

-- of the name that has this number
abbrev pub symbol_for : (ℕ → Bool) → List (List ℕ) → List (Option Spot) → ℕ → Option SymbolValue
symbol_for is_global names spots k = option_map (λ name. symbol_by (is_global k) name (spot_of spots k)) (slice_get names k)

abbrev pub symbols_for : (ℕ → Bool) → List (List ℕ) → List (Option Spot) → List ℕ → List SymbolValue
symbols_for is_global names spots order = filter_map (symbol_for is_global names spots) order

-- the places of the symbols of the first so many names
abbrev pub symbol_numbers : List ℕ → ℕ → List (Option ℕ)
symbol_numbers order names = map (symbol_number order) (below names)
