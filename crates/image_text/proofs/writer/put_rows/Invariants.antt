use Rattle.std.proofs.Common.{◌≡◌, ◌-◌, ◌*◌, ◌++◌, ℕ, List, drop}
use Rattle.image_text.specs.ImageText.{rows_text}
use Rattle.image_text.proofs.writer.put_rows.Given as goal

-- what is written, and what is left
abbrev pub invariant-loop-row : goal.invariant-loop-row
invariant-loop-row l = (rest : List ℕ) → l.text.items ++ rows_text (4096 - l.row) (16 * l.row) (drop (16 * l.row) l.memory) rest ≡ l.fn.text.items ++ rows_text 4064 512 (drop 512 l.memory) rest
