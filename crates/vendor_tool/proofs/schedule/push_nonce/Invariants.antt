use Rattle.std.proofs.Common.{◌≡◌, ◌+◌, ◌*◌, ◌++◌, drop}
use Rattle.vendor_tool.specs.Challenges.{byte_step}
use Rattle.vendor_tool.specs.NonceSchedule.{bytes_from, nonce_entries, entries_text}
use Rattle.vendor_tool.proofs.schedule.push_nonce.Given as goal

-- what is written, and what is left
abbrev pub invariant-loop-byte : goal.invariant-loop-byte
invariant-loop-byte l = record {
  at : l.cycle ≡ l.challenge.cycle + byte_step * l.byte-index;
  text : l.text.items ++ entries_text (bytes_from l.challenge.cycle l.byte-index (drop l.byte-index l.challenge.nonce)) ≡ l.fn.text.items ++ entries_text (nonce_entries l.challenge);
}
