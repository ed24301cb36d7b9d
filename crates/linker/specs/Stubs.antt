-- Entry stubs and vectors in a memory.
use Rattle.std.specs.Prelude.{ℕ, ◌+◌, List, ◌*◌, ◌%◌, map, flat_map}
use Rattle.mod_layout.specs.declared.TheConstants.{FIRST_VECTOR}
use Rattle.layout_file.specs.Values.{ModuleValue, VectorValue}
use Rattle.entry_stubs.specs.Stub.{stub_words}
use Rattle.linker.specs.Placement.{text_of}
use Rattle.linker.specs.Numbers.{number_or_zero, Linking}
use Rattle.linker.specs.Bytes.{bytes_put, word_bytes}

-- the low word of what a name stands for
abbrev pub word_named : Linking → List ℕ → ℕ
word_named l name = number_or_zero l.address (l.names name) % 65536

abbrev pub stub_of : Linking → (ℕ → ℕ) → ℕ → ModuleValue → List ℕ
stub_of l end i m = stub_words (text_of end i m) m.ram.start m.stack (map (word_named l) m.entries)

unfoldable pub put_stub : Linking → (ℕ → ℕ) → List ℕ → ℕ → ModuleValue → List ℕ
put_stub l end memory i m = bytes_put memory m.text.start (flat_map word_bytes (stub_of l end i m))

-- a vector's word is the low 16 bits
unfoldable pub put_vector : Linking → List ℕ → VectorValue → List ℕ
put_vector l memory v = bytes_put memory (FIRST_VECTOR + 2 * v.vector) (word_bytes (word_named l v.name))
