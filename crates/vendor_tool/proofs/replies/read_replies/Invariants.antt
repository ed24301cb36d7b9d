use Rattle.std.proofs.Common.{length}
use Rattle.vendor_tool.proofs.Replying.{IsReplied}
use Rattle.vendor_tool.proofs.replies.read_replies.Given as goal

abbrev pub invariant-loop-line : goal.invariant-loop-line
invariant-loop-line l = IsReplied l.trace l.replies.items l.rest l.before

abbrev pub decreases-loop-line : goal.decreases-loop-line
decreases-loop-line l = length l.rest
