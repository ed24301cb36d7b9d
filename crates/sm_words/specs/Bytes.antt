-- The bytes of words.
use Rattle.std.specs.Prelude.{ℕ, List, [], ◌∷◌}
use Rattle.sm_words.specs.Words.{low_byte, high_byte}

-- a word as it stands in memory, the low byte first
abbrev pub word_bytes : ℕ → List ℕ
word_bytes w = low_byte w ∷ high_byte w ∷ []
