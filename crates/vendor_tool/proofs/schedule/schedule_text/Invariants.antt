use Rattle.std.proofs.Common.{◌≡◌, ◌++◌, drop}
use Rattle.vendor_tool.specs.NonceSchedule.{schedule_entries, entries_text}
use Rattle.vendor_tool.proofs.schedule.schedule_text.Given as goal

-- what is written, and what is left
abbrev pub invariant-loop-challenge : goal.invariant-loop-challenge
invariant-loop-challenge l = l.text.items ++ entries_text (schedule_entries (drop l.challenge-index l.challenges.list.items)) ≡ entries_text (schedule_entries l.challenges.list.items)
