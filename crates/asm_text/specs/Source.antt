-- The statements of a source.
use Rattle.std.specs.Prelude.{ℕ, ◌+◌, List, [], ◌∷◌, ◌++◌, Option, Some, None}
use Rattle.texts.specs.Lines.{ended_lines, unended}
use Rattle.asm_line.specs.declared.statement.Statement.{Statement}
use Rattle.asm_line.specs.Lines.{statement_of}
use Rattle.asm_text.specs.Names.{Tables, no_tables, tables_after, numbered}

-- the statements of the lines up to the first that has no form or no LF, which `stopped` numbers
pub record SourceRead : Type 0 where
  pub tables : Tables
  pub statements : List (Statement ℕ)
  pub stopped : Option ℕ

abbrev pub more : Tables → List (Statement ℕ) → Statement (List ℕ) → List (Statement ℕ)
more tables statements s = statements ++ numbered tables s ∷ []

abbrev pub source_by : ℕ → Tables → List (Statement ℕ) → Option (Statement (List ℕ)) → (Tables → List (Statement ℕ) → SourceRead) → SourceRead
source_by n tables statements None rest = record { tables = tables; statements = statements; stopped = Some n }
source_by n tables statements (Some s) rest = rest (tables_after tables s) (more tables statements s)

-- the lines from line n on, with what stands behind the last LF
abbrev pub source_from : ℕ → Tables → List (Statement ℕ) → List (List ℕ) → List ℕ → SourceRead
source_from n tables statements [] [] = record { tables = tables; statements = statements; stopped = None }
source_from n tables statements [] (b ∷ tail) = record { tables = tables; statements = statements; stopped = Some n }
source_from n tables statements (line ∷ lines) tail =
    source_by n tables statements (statement_of line) (λ t ss. source_from (n + 1) t ss lines tail)

unfoldable pub source_read : List ℕ → SourceRead
source_read text = source_from 1 no_tables [] (ended_lines text) (unended text)
