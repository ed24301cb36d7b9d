use Rattle.std.proofs.Common.{length}
use Rattle.asm_text.proofs.SourceLemmas.{IsRead}
use Rattle.asm_text.proofs.reading.read_source.Given as goal

abbrev pub invariant-loop-line : goal.invariant-loop-line
invariant-loop-line l = IsRead l.text l.tables l.statements.items l.rest l.n

abbrev pub decreases-loop-line : goal.decreases-loop-line
decreases-loop-line l = length l.rest
