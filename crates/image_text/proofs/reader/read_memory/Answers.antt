use Rattle.std.proofs.Common.{ℕ, ◌-◌, ◌++◌, List, length, replicate, refl, ap, ◌∙◌}
use Rattle.image_text.specs.ImageText.{line_before, end_line}
use Rattle.image_text.proofs.RowTexts.{rows_more, rows_none, rows_done}
use Rattle.image_text.proofs.reader.read_memory.Goals as goal

pub loop-memory-init : goal.loop-memory-init
loop-memory-init c = record { so_far = rows_none c.args.lines.now.rest c.in_ok-memory.memory.items c.in_ok-memory.ensures.zeros; even = refl; refusal = refl }

pub loop-memory-preserved : goal.loop-memory-preserved
loop-memory-preserved c =
    let a = rw c.in-Some.is at c.in_ok-at.ensures.row in
    record {
      so_far = rows_more c.args.lines.now.rest c.loop-memory.last c.in-Some.at c.loop-memory.memory.items c.next_row.new.memory.items c.loop-memory.lines
          c.next_row.new.lines a.even c.loop-memory.invariant.so_far a;
      even = a.even;
      refusal = c.loop-memory.invariant.refusal ∙ a.refusal;
    }

pub returns-in-Ok-clause-passed : goal.returns-in-Ok-clause-passed
returns-in-Ok-clause-passed c =
    let e = rw c.in_default.is at c.in_ok-at.ensures.row in
    rows_done c.args.lines.now c.loop-memory.last c.loop-memory.memory.items c.fill.new.memory.items c.loop-memory.lines.rest c.loop-memory.invariant.even
    c.loop-memory.invariant.so_far (e.text ∙ ap (λ (l : List ℕ). line_before end_line l) c.in_ok-end.ensures.nothing)
    (c.in-Ok.ensures ∙ ap (λ (l : List ℕ). l ++ replicate (65536 - length l) 0) e.same)
