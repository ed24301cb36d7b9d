use Rattle.std.proofs.Common.{length}
use Rattle.pulse_sweep.proofs.Differing.{Differing}
use Rattle.pulse_sweep.proofs.row.different_lines.Given as goal

abbrev pub invariant-loop-line : goal.invariant-loop-line
invariant-loop-line l = Differing l.first l.second l.rest l.other_rest l.number

abbrev pub decreases-loop-line : goal.decreases-loop-line
decreases-loop-line l = length l.rest
