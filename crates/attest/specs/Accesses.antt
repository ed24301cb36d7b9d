-- Reads and writes of single bytes in a memory.
use Rattle.std.specs.Prelude.{ℕ, List, map, slice_index, slice_set}
use Rattle.pc_access.specs.declared.Access.{Access}
pub use Rattle.pc_access.specs.Accesses.{is_read, is_write, reads_of, writes_of, after_writes}

-- the bytes that the reads give
abbrev pub bytes_read : List ℕ → List Access → List ℕ
bytes_read mem xs = map (λ x. slice_index mem x.addr) (reads_of xs)

-- the memory once these bytes are stored, one at each access
abbrev pub memory_after : List ℕ → List Access → List ℕ → List ℕ
memory_after mem xs values = after_writes (λ bytes x v. slice_set bytes x.addr v) mem xs values
