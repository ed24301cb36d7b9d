use Rattle.std.proofs.Common.{length}
use Rattle.texts.proofs.RowLemmas.{IsRead}
use Rattle.vendor_tool.specs.Challenges.{IsChallenge}
use Rattle.vendor_tool.specs.ChallengeText.{challenge_rows}
use Rattle.vendor_tool.proofs.reading.read_challenges.Given as goal

abbrev pub invariant-loop-line : goal.invariant-loop-line
invariant-loop-line l = IsRead challenge_rows IsChallenge l.bytes l.list.items l.rest l.n l.low

abbrev pub decreases-loop-line : goal.decreases-loop-line
decreases-loop-line l = length l.rest
