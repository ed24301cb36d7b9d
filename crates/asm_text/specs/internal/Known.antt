-- What the statements of a source keep: their names have numbers below those of the tables.
use Rattle.std.specs.Prelude.{ℕ, ◌<◌, ◌≤◌, Option, Some, None, All, List}
use Rattle.asm_line.specs.declared.TheConstants.{MAX_SIZE}
use Rattle.asm_line.specs.declared.statement.Field.TheVariants.{Number, Name}
use Rattle.asm_line.specs.declared.statement.Statement.{Statement}
use Rattle.asm_line.specs.declared.statement.Statement.TheVariants.{Section, Label, Global, Word, Space, Jump, Code}

abbrev pub IsBelow : ℕ → Option ℕ → Type 0
IsBelow n None = Unit {0}
IsBelow n (Some k) = k < n

-- names have numbers below this, and what else a statement keeps
abbrev pub IsKnown : ℕ → Statement ℕ → Type 0
IsKnown names (Section name kind) = Unit {0}
IsKnown names (Label name) = name < names
IsKnown names (Global name) = name < names
IsKnown names (Word (Name name)) = name < names
IsKnown names (Word (Number n)) = Unit {0}
IsKnown names (Space size) = size ≤ MAX_SIZE
IsKnown names (Jump condition target) = target < names
IsKnown names (Code insn first second) = IsBelow names first × IsBelow names second

abbrev pub AreKnown : ℕ → List (Statement ℕ) → Type 0
AreKnown names statements = All (IsKnown names) statements

-- the names of sections have numbers below this
abbrev pub IsNamed : ℕ → Statement ℕ → Type 0
IsNamed sections (Section name kind) = name < sections
IsNamed sections _ = Unit {0}

abbrev pub AreNamed : ℕ → List (Statement ℕ) → Type 0
AreNamed sections statements = All (IsNamed sections) statements
