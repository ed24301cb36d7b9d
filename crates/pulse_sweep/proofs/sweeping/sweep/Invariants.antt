use Rattle.std.proofs.Common.{◌≡◌, ◌≤◌, not}
use Rattle.std.specs.List.{count_by, flat_map, range_with_len}
use Rattle.pulse_sweep.specs.Sweep.{is_same_at, row_at}
use Rattle.pulse_sweep.proofs.sweeping.sweep.Given as goal

abbrev pub invariant-loop-i : goal.invariant-loop-i
invariant-loop-i l = record {
  text : l.swept.text.items ≡ flat_map (row_at l.pulses l.first l.second) (range_with_len l.pulses.from l.i);
  different : l.swept.different ≡ count_by (λ c. not (is_same_at l.pulses l.first l.second c)) (range_with_len l.pulses.from l.i);
  few : l.swept.different ≤ l.i;
}
