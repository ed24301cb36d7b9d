-- Numbers as bytes, the low byte first, and zeros up to a multiple of 4.
use Rattle.std.specs.Prelude.{ℕ, ◌-◌, ◌%◌, List, ◌++◌, length, replicate}
use Rattle.std.specs.List.{flat_map}
use Rattle.byteorder.specs.Endian.{little_bytes}

-- the low two bytes of a number
abbrev pub half_bytes : ℕ → List ℕ
half_bytes n = little_bytes 2 n

-- the low four bytes of a number
abbrev pub long_bytes : ℕ → List ℕ
long_bytes n = little_bytes 4 n

-- several of them
abbrev pub longs_bytes : List ℕ → List ℕ
longs_bytes ns = flat_map long_bytes ns

-- how many bytes are missing to a multiple of 4
abbrev pub gap : ℕ → ℕ
gap n = (4 - n % 4) % 4

-- bytes with zeros after them, up to a multiple of 4
unfoldable pub padded_bytes : List ℕ → List ℕ
padded_bytes bytes = bytes ++ replicate (gap (length bytes)) 0
