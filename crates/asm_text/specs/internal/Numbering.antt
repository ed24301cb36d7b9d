-- The places of symbols by the numbers of their names.
use Rattle.std.specs.Prelude.{ℕ, ◌≡◌, ◌<◌, Bool, false, List, length, Option, slice_index_or, All}
use Rattle.asm_line.specs.declared.statement.Statement.{Statement}
use Rattle.asm_text.specs.Symbols.{symbol_number, is_global_name}

-- of each name the place of its symbol
abbrev pub IsNumbering : List (Option ℕ) → List ℕ → Type 0
IsNumbering numbers order = (k : ℕ) (d : Option ℕ) → k < length numbers → slice_index_or numbers k d ≡ symbol_number order k

abbrev pub AreBelow : ℕ → List ℕ → Type 0
AreBelow n ks = All (λ k. k < n) ks

-- of each name whether some line calls it global
abbrev pub AreGlobals : List Bool → List (Statement ℕ) → ℕ → Type 0
AreGlobals globals statements names = (k : ℕ) → k < names → slice_index_or globals k false ≡ is_global_name statements k
