use Rattle.std.proofs.Common.{◌≡◌, ◌+◌, length}
use Rattle.image_text.specs.internal.Reading.{ModulesSoFar}
use Rattle.image_text.proofs.reader.read_modules.Given as goal

abbrev pub invariant-loop-left : goal.invariant-loop-left
invariant-loop-left l = record {
  so_far : ModulesSoFar l.room l.fn.due l.fn.lines l.table l.lines l.left;
  module_is : l.module ≡ l.table.given + 1;
}

abbrev pub decreases-loop-left : goal.decreases-loop-left
decreases-loop-left l = length l.lines.rest
