use Rattle.std.proofs.Common.{◌≡◌, ℕ, List, ◌++◌, ◌-◌, ◌≤◌, ◌<◌, length, slice_range}
use Rattle.mod_keys.specs.Fed.{IsFed}
use Rattle.attest.proofs.hash.feed.Given as goal

-- the bytes below `at` were fed
abbrev pub invariant-loop-at : goal.invariant-loop-at
invariant-loop-at l = record {
  fed : (key message : List ℕ) → IsFed l.fn.hmac key message → IsFed l.hmac key (message ++ slice_range l.memory.bytes l.start l.at);
  low : l.start ≤ l.at;
  high : l.at ≤ l.end;
  size : l.start < l.at → length l.memory.bytes ≡ 65536;
}

abbrev pub decreases-loop-at : goal.decreases-loop-at
decreases-loop-at l = l.end - l.at
