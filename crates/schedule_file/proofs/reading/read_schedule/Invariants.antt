use Rattle.std.proofs.Common.{length}
use Rattle.texts.proofs.RowLemmas.{IsRead}
use Rattle.schedule_file.specs.Entries.{HasLine}
use Rattle.schedule_file.specs.Reading.{entry_rows}
use Rattle.schedule_file.proofs.reading.read_schedule.Given as goal

abbrev pub invariant-loop-line : goal.invariant-loop-line
invariant-loop-line l = IsRead entry_rows HasLine l.bytes l.entries.items l.rest l.n l.low

abbrev pub decreases-loop-line : goal.decreases-loop-line
decreases-loop-line l = length l.rest
