use Rattle.std.proofs.Common.{◌≡◌, ◌-◌, ◌≤◌, ◌++◌, ℕ, List, length, drop}
use Rattle.image_text.specs.ImageText.{modules_text}
use Rattle.image_text.proofs.writer.put_modules.Given as goal

-- what is written, and what is left
abbrev pub invariant-loop-module : goal.invariant-loop-module
invariant-loop-module l = record {
  within : l.index ≤ length l.table.modules;
  text : (rest : List ℕ) → l.text.items ++ modules_text (drop l.index l.table.modules) rest ≡ l.fn.text.items ++ modules_text l.table.modules rest;
}

abbrev pub decreases-loop-module : goal.decreases-loop-module
decreases-loop-module l = length l.table.modules - l.index
