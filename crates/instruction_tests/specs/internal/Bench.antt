-- A memory of 64 bytes, for the tests; an address counts modulo 64.
use Rattle.std.specs.Prelude.{ℕ, ◌+◌, ◌%◌, List, slice_index, slice_set}
use Rattle.sm_words.specs.Words.{low_byte, high_byte}
use Rattle.sm_words.specs.declared.width.Width.{Width}
use Rattle.sm_words.specs.declared.width.Width.TheVariants.{Byte, Word}
use Rattle.cpu_step.specs.Lone.{value_at}

-- what a read gives
abbrev pub bench_value : List ℕ → Width → ℕ → ℕ
bench_value m w a = value_at w (λ x. slice_index m (x % 64)) a

-- the memory after a write
abbrev pub bench_written : List ℕ → Width → ℕ → ℕ → List ℕ
bench_written m Byte a v = slice_set m (a % 64) (low_byte v)
bench_written m Word a v = slice_set (slice_set m (a % 64) (low_byte v)) ((a + 1) % 64) (high_byte v)
