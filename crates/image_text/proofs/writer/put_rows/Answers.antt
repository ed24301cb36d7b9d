use Rattle.std.proofs.Common.{◌≡◌, ℕ, ◌+◌, ◌-◌, ◌*◌, List, ◌++◌, drop, sym, ap, ◌∙◌, arith}
use Rattle.image_text.specs.ImageText.{rows_text}
use Rattle.image_text.proofs.WriteLemmas.{row_written, rows_over}
use Rattle.image_text.proofs.writer.put_rows.Goals as goal

pub loop-row-preserved : goal.loop-row-preserved
loop-row-preserved c = row_written c.loop-row.text.items c.put_row.new.text.items c.args.text.now.items c.loop-row.row (16 * c.loop-row.row + 16 - 16 * c.loop-row.row) c.args.memory.now (omega arith) (omega arith) c.in_ok-put_row.ensures c.loop-row.invariant

pub returns : goal.returns
returns c = λ rest.
    let done : c.loop-row.row ≡ 4096 = omega arith in
    sym (ap (λ (l : List ℕ). c.loop-row.text.items ++ l) (ap (λ (n : ℕ). rows_text (4096 - n) (16 * n) (drop (16 * n) c.args.memory.now) rest) done ∙ rows_over (16 * 4096) (drop (16 * 4096) c.args.memory.now) rest)) ∙ c.loop-row.invariant rest
