use Rattle.std.proofs.Common.{length}
use Rattle.texts.proofs.RowLemmas.{IsRead}
use Rattle.arm_balance.specs.Certificates.{arm_rows}
use Rattle.arm_balance.proofs.certificates.read_arms.Given as goal

abbrev pub invariant-loop-line : goal.invariant-loop-line
invariant-loop-line l = IsRead arm_rows (λ arm. Unit {0}) l.bytes l.list.items l.rest l.n l.low

abbrev pub decreases-loop-line : goal.decreases-loop-line
decreases-loop-line l = length l.rest
