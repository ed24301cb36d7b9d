-- The bytes below the index are masked, the others as they were.
use Rattle.std.proofs.Common.{◌≡◌, ℕ, ◌<◌, ◌≤◌, bit_xor, slice_index}
use Rattle.mod_keys.proofs.mac.masked.Given as goal

abbrev pub invariant-loop-byte : goal.invariant-loop-byte
invariant-loop-byte l = record {
  below : (k : ℕ) → k < l.byte-index → slice_index l.byte-items k ≡ bit_xor (slice_index l.fn.block k) l.mask;
  above : (k : ℕ) → l.byte-index ≤ k → slice_index l.byte-items k ≡ slice_index l.fn.block k;
}
