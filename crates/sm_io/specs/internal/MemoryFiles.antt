-- What the code's own invariants say of: MemoryFiles.
use Rattle.std.specs.Prelude.{ℕ, List}
use Rattle.std.specs.String.{string_bytes}
use Rattle.sm_io.specs.declared.memory_files.MemFile.{MemFile}

abbrev pub named_bytes : MemFile → List ℕ × List ℕ
named_bytes file = (string_bytes file.name, file.bytes.items)
