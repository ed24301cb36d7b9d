use Rattle.std.proofs.Common.{◌≡◌, ◌+◌, ◌*◌, ◌++◌, length, take}
use Rattle.std.specs.List.{flat_map}
use Rattle.sm_words.specs.Bytes.{word_bytes}
use Rattle.workload.proofs.program.place.Given as goal

abbrev pub invariant-loop-word : goal.invariant-loop-word
invariant-loop-word l = (l.memory.items ≡ l.initial.memory.items ++ flat_map word_bytes (take l.word-index l.words)) × (length l.memory.items ≡ length l.initial.memory.items + 2 * l.word-index)
