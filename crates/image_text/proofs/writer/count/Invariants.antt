use Rattle.std.proofs.Common.{◌-◌, ◌≤◌, length}
use Rattle.image_text.proofs.writer.count.Given as goal

abbrev pub invariant-loop-count : goal.invariant-loop-count
invariant-loop-count l = l.count ≤ length l.table.modules

abbrev pub decreases-loop-count : goal.decreases-loop-count
decreases-loop-count l = length l.table.modules - l.count
