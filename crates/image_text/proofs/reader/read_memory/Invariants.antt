use Rattle.std.proofs.Common.{◌≡◌, ◌-◌, ◌%◌}
use Rattle.image_text.specs.Refusal.{rows_refusal}
use Rattle.image_text.specs.internal.Reading.{on, RowsSoFar}
use Rattle.image_text.proofs.reader.read_memory.Given as goal

abbrev pub invariant-loop-memory : goal.invariant-loop-memory
invariant-loop-memory l = record {
  so_far : RowsSoFar l.fn.lines.rest l.last l.memory.items l.lines.rest;
  even : l.last % 16 ≡ 0;
  refusal : on l.fn.lines (rows_refusal 496) ≡ on l.lines (rows_refusal l.last);
}

abbrev pub decreases-loop-memory : goal.decreases-loop-memory
decreases-loop-memory l = 65536 - l.last
