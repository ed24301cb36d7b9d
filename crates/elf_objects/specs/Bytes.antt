-- Numbers of a file, the low byte first. A number that is not wholly in the file counts as 0.
use Rattle.std.specs.Prelude.{ℕ, ◌+◌, List, length, drop, nat_lt, if◌then◌else◌}
use Rattle.byteorder.specs.Endian.{little_number}

unfoldable pub half_at : List ℕ → ℕ → ℕ
half_at file at = if nat_lt (length file) (at + 2) then 0 else little_number 2 (drop at file)

unfoldable pub long_at : List ℕ → ℕ → ℕ
long_at file at = if nat_lt (length file) (at + 4) then 0 else little_number 4 (drop at file)
