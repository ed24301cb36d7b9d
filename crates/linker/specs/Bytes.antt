-- Bytes in a memory.
use Rattle.std.specs.Prelude.{ℕ, ◌+◌, List, length, ◌++◌, take, drop}
pub use Rattle.sm_words.specs.Bytes.{word_bytes}

-- these bytes in a memory, from an address on
abbrev pub bytes_put : List ℕ → ℕ → List ℕ → List ℕ
bytes_put memory at bytes = take at memory ++ (bytes ++ drop (at + length bytes) memory)

abbrev pub memory_part : List ℕ → ℕ → ℕ → List ℕ
memory_part memory at size = take size (drop at memory)
