-- The words of entries and vectors.
use Rattle.std.proofs.Common.{◌≡◌, ℕ, ◌+◌, ◌*◌, ◌<◌, ◌/◌, ◌%◌, List, get_or, drop, sym, ap, ◌∙◌, arith}
use Rattle.std.specs.Prelude.{slice_index}
use Rattle.std.proofs.lemmas.List.{get_or-take, get_or-drop}
use Rattle.sm_words.specs.Words.{word_at}
use Rattle.entry_stubs.specs.Stub.{front_words}
use Rattle.mod_layout.specs.declared.TheConstants.{FIRST_VECTOR}
use Rattle.linker.specs.Bytes.{memory_part, word_bytes}
use Rattle.linker.specs.Numbers.{linking_of, number_or_zero, Linking}
use Rattle.linker.specs.Stubs.{word_named}
use Rattle.linker_laws.specs.Contents.{TableWords, VectorWords}
use Rattle.map_laws.specs.Laws.{EntryWords, VectorLines}

byte_here : (memory bytes : List ℕ) (a k : ℕ) → k < 2 → memory_part memory a 2 ≡ bytes → slice_index memory (a + k) ≡ get_or bytes k 0
byte_here memory bytes a k h e = sym (get_or-drop a memory k 0) ∙ (sym (get_or-take 2 (drop a memory) k 0 h) ∙ ap (λ l. get_or l k 0) e)

whole : (w : ℕ) → w < 65536 → w % 256 + 256 * (w / 256 % 256) ≡ w
whole w h = omega arith

pub word_here : (memory : List ℕ) (a w : ℕ) → w < 65536 → memory_part memory a 2 ≡ word_bytes w → word_at (slice_index memory) a ≡ w
word_here memory a w h e =
    let first : slice_index memory (a + 0) ≡ w % 256 = byte_here memory (word_bytes w) a 0 (omega arith) e in
    let second : slice_index memory (a + 1) ≡ w / 256 % 256 = byte_here memory (word_bytes w) a 1 (omega arith) e in
    let zero_more : a + 0 ≡ a = omega arith in
    let low : slice_index memory a ≡ w % 256 = ap (slice_index memory) (sym zero_more) ∙ first in
    omega (arith, low, second, whole w h)

small : (l : Linking) (name : List ℕ) → word_named l name < 65536
small l name = let n : ℕ = number_or_zero l.address (l.names name) in let h : n % 65536 < 65536 = omega arith in h

pub entry_words : TableWords → EntryWords
entry_words given layout os image linked i k m name e f =
    word_here image.memory (m.text.start + 2 * front_words + 2 * k) (word_named (linking_of layout os) name) (small (linking_of layout os) name) (given layout os image linked i k m name e f)

pub vector_lines : VectorWords → VectorLines
vector_lines given layout os image linked k v e =
    word_here image.memory (FIRST_VECTOR + 2 * v.vector) (word_named (linking_of layout os) v.name) (small (linking_of layout os) v.name) (given layout os image linked k v e)
