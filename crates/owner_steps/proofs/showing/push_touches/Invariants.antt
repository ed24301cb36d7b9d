use Rattle.std.proofs.Common.{◌≡◌, ◌+◌, ◌*◌, ◌≤◌, ◌++◌, drop}
use Rattle.std.specs.List.{flat_map}
use Rattle.arrayvec.specs.ArrayString.{array_string_len}
use Rattle.owner_steps.specs.Begun.{touch_line}
use Rattle.owner_steps.proofs.showing.push_touches.Given as goal

abbrev pub invariant-loop-touch : goal.invariant-loop-touch
invariant-loop-touch l = record {
  text : l.lines.bytes ++ flat_map touch_line (drop l.touch-index l.touches) ≡ l.initial.lines.bytes ++ flat_map touch_line l.touches;
  long : array_string_len l.lines ≤ array_string_len l.initial.lines + 18 * l.touch-index;
}
