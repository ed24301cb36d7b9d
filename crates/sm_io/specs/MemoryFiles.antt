-- Files in memory.
use Rattle.std.specs.Prelude.{ℕ, ◌+◌, ◌-◌, min, Bool, List, [], ◌∷◌, ◌++◌, length, take, drop, Option, Some, None, Result, Ok, Err, if◌then◌else◌}
use Rattle.std.specs.Str.{bytes_eq}
use Rattle.sm_io.specs.declared.files.Unread.{Unread}
use Rattle.sm_io.specs.declared.files.Unread.TheVariants.{Absent, Failed}
use Rattle.sm_io.specs.Faults.{counted}
use Rattle.sm_io.specs.Files.{FileMap}
use Rattle.sm_io.specs.Calls.{is_listed}

-- what contracts see: the files, the newest first; the calls that are to fail, and how many calls and faults there were
pub record MemoryFiles : Type 0 where
  pub files : List (List ℕ × List ℕ)
  pub failing : List ℕ
  pub calls : ℕ
  pub faults : ℕ

-- the newest file of that name
abbrev pub file_of : List (List ℕ × List ℕ) → FileMap
file_of [] name = None
file_of (file ∷ files) name = if bytes_eq file.0 name then Some file.1 else file_of files name

-- whether the next call is to fail
abbrev pub fails_now : MemoryFiles → Bool
fails_now m = is_listed m.failing m.calls

-- as many bytes as the file has from `at` on and as there is room for
abbrev pub part_answer : Option (List ℕ) → ℕ → ℕ → Result ℕ Unread
part_answer None at room = Err Absent
part_answer (Some bytes) at room = Ok (min (length bytes - at) room)

-- the answer of a read: a listed call fails, whatever the name
abbrev pub read_answer : MemoryFiles → List ℕ → ℕ → ℕ → Result ℕ Unread
read_answer m name at room = if fails_now m then Err Failed else part_answer (file_of m.files name) at room

-- bytes of the file at the front of a buffer, which keeps what stands past them
abbrev pub part_read : Option (List ℕ) → ℕ → List ℕ → List ℕ
part_read None at buf = buf
part_read (Some bytes) at buf = take (length buf) (drop at bytes) ++ drop (length bytes - at) buf

-- the buffer after a read
abbrev pub buffer_after : MemoryFiles → List ℕ → ℕ → List ℕ → List ℕ
buffer_after m name at buf = if fails_now m then buf else part_read (file_of m.files name) at buf

-- one call more, and one fault more where it failed
abbrev pub files_after : MemoryFiles → MemoryFiles
files_after m = record m { calls = counted (m.calls + 1); faults = if fails_now m then counted (m.faults + 1) else m.faults }
