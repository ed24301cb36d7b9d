-- What reading a source keeps from line to line.
use Rattle.std.proofs.Common.{ℕ, ◌≡◌, ◌+◌, ◌≤◌, List, [], ◌∷◌, ◌++◌, length, Some, ap, sym, ◌∙◌, length-append, arith}
use Rattle.texts.specs.Lines.{ended_lines, unended}
use Rattle.asm_text.specs.declared.reading.Tables.{Tables as TablesKept}
use Rattle.asm_line.specs.declared.statement.Statement.{Statement}
use Rattle.asm_line.specs.Lines.{statement_of}
use Rattle.asm_text.specs.Names.{no_tables, tables_after}
use Rattle.asm_text.specs.internal.Read.{tables_value, AreIndexed}
use Rattle.asm_text.specs.Source.{source_by, source_from, source_read, more}

pub record IsRead (text : List ℕ) (tables : TablesKept) (statements : List (Statement ℕ)) (rest : List ℕ) (n : ℕ) : Type 0 where
  pub total : source_read text ≡ source_from n (tables_value tables) statements (ended_lines rest) (unended rest)
  pub counted : n + length rest ≤ length text + 1
  pub indexed : AreIndexed tables

pub IsRead-start : (text : List ℕ) (tables : TablesKept) → tables_value tables ≡ no_tables → AreIndexed tables → IsRead text tables [] text 1
unfolding source_read
IsRead-start text tables none indexed = record {
  total = ap (λ t. source_from 1 t [] (ended_lines text) (unended text)) (sym none);
  counted = omega arith;
  indexed = indexed;
}

-- a line, and what stands behind it
pub record IsNext (rest line after : List ℕ) : Type 0 where
  pub cut : rest ≡ line ++ 10 ∷ after
  pub lines : ended_lines rest ≡ line ∷ ended_lines after
  pub behind : unended rest ≡ unended after

by_line : (text rest line after : List ℕ) (tables : TablesKept) (statements : List (Statement ℕ)) (n : ℕ) → IsRead text tables statements rest n → IsNext rest line after
    → source_read text ≡ source_by n (tables_value tables) statements (statement_of line) (λ t ss. source_from (n + 1) t ss (ended_lines after) (unended after))
by_line text rest line after tables statements n r next =
    r.total
    ∙ ap (λ ls. source_from n (tables_value tables) statements ls (unended rest)) next.lines
    ∙ ap (λ t. source_from n (tables_value tables) statements (line ∷ ended_lines after) t) next.behind

-- after one more line
pub IsRead-more : (text rest line after : List ℕ) (tables tables' : TablesKept) (statements : List (Statement ℕ)) (n : ℕ) (s : Statement (List ℕ)) → IsRead text tables statements rest n → IsNext rest line after
    → statement_of line ≡ Some s → tables_value tables' ≡ tables_after (tables_value tables) s → AreIndexed tables' → IsRead text tables' (more (tables_value tables) statements s) after (n + 1)
IsRead-more text rest line after tables tables' statements n s r next is noted indexed = record {
  total = by_line text rest line after tables statements n r next
      ∙ ap (λ o. source_by n (tables_value tables) statements o (λ t ss. source_from (n + 1) t ss (ended_lines after) (unended after))) is
      ∙ ap (λ t. source_from (n + 1) t (more (tables_value tables) statements s) (ended_lines after) (unended after)) (sym noted);
  counted = let old = r.counted in omega (arith, ap length next.cut, length-append line (10 ∷ after));
  indexed = indexed;
}
