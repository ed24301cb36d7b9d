use Rattle.std.proofs.Common.{◌≤◌, length, ap, arith}
use Rattle.vendor_tool.specs.NonceSchedule.{schedule_entries, entries_text}
use Rattle.vendor_tool.proofs.EntryLines.{schedule_read}
use Rattle.vendor_tool.proofs.Sending.{nonces_done}
use Rattle.vendor_tool.proofs.schedule.schedule_text.Goals as goal

pub returns-clause-read : goal.returns-clause-read
returns-clause-read c =
    let challenges = c.args.challenges.now in
    let past : length challenges.list.items ≤ c.loop-challenge.challenge-index = omega (arith, c.loop-challenge-test.false, ap length c.deref-challenge-items.ensures.value) in
    schedule_read c.one_line_an_entry.ensures.read challenges.list.items c.loop-challenge.text.items challenges.few challenges.challenges challenges.apart
    (nonces_done c.loop-challenge.text.items (entries_text (schedule_entries challenges.list.items)) challenges.list.items c.loop-challenge.challenge-index past c.loop-challenge.invariant)
