use Rattle.std.proofs.Common.{length}
use Rattle.script_file.proofs.Loop.{IsRead}
use Rattle.script_file.proofs.reading.read_script.Given as goal

abbrev pub invariant-loop-text : goal.invariant-loop-text
invariant-loop-text l = IsRead l.bytes l.lines.items l.rest l.n

abbrev pub decreases-loop-text : goal.decreases-loop-text
decreases-loop-text l = length l.rest
