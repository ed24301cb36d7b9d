-- The memory of a linked image holds bytes.
use Rattle.std.proofs.Common.{◌⊎◌, inl, inr, ℕ, suc, ◌+◌, ◌-◌, ◌*◌, ◌/◌, ◌%◌, ◌<◌, ◌≤◌, List, [], ◌∷◌, ◌++◌, take, drop, length, slice_get, Option, Some, None, Bool, true, false, cond, arith, fold}
use Rattle.std.specs.Prelude.{All, slice_index}
use Rattle.std.specs.List.{flat_map}
use Rattle.std.specs.Option.{option_map_or}
use Rattle.std.proofs.lemmas.Bool.{cases_lt}
use Rattle.std.proofs.lemmas.List.{get_or_past}
use Rattle.std.proofs.lemmas.List.Elements.{All-nil, All-cons, All-append, All-take, All-drop, All-replicate}
use Rattle.elf_objects.specs.declared.object.SectionHead.{SectionHead}
use Rattle.elf_objects.specs.declared.object.Relocation.{Relocation}
use Rattle.elf_objects.specs.Object.{ObjectValue}
use Rattle.reloc_apply.specs.Fields.{with_field}
use Rattle.reloc_apply.proofs.FaultLemmas.{IsByte, keeps_bytes}
use Rattle.layout_file.specs.Values.{VectorValue, ModuleValue, LayoutValue}
use Rattle.link_symbols.specs.Passes.{NumberedObject, numbered_objects, numbered_objects_from, part, fold_at}
use Rattle.link_symbols.specs.Parts.{is_loaded_head}
use Rattle.linker.specs.Numbers.{Linking, numbers_in}
use Rattle.linker.specs.Bytes.{bytes_put, memory_part, word_bytes}
use Rattle.linker.specs.Sections.{put_section, put_sections}
use Rattle.linker.specs.Fields.{put_field_to, put_field, put_fields, field_place, target_address, file_size, symbol_sum}
use Rattle.linker.specs.Stubs.{word_named, stub_of, put_stub, put_vector}
use Rattle.linker.specs.Image.{memory_by, blank_memory}
use Rattle.linker.specs.Laws.{AreBytes}

-- past its end a list reads as 0
read_by : (m : List ℕ) (a : ℕ) → AreBytes m → (a < length m) ⊎ (length m ≤ a) → slice_index m a < 256
read_by m a h (inl l) = h a 0 l
read_by m a h (inr l) = let z = get_or_past m a 0 l in omega (arith, z)

pub each_byte : (m : List ℕ) → AreBytes m → (a : ℕ) → slice_index m a < 256
each_byte m h a = read_by m a h (cases_lt a (length m))

put_bytes : (m : List ℕ) (at : ℕ) (bytes : List ℕ) → AreBytes m → AreBytes bytes → AreBytes (bytes_put m at bytes)
put_bytes m at bytes h b =
    All-append IsByte (take at m) (bytes ++ drop (at + length bytes) m) (All-take IsByte at m h)
    (All-append IsByte bytes (drop (at + length bytes) m) b (All-drop IsByte (at + length bytes) m h))

-- ---- files

-- the files of numbered objects hold bytes
abbrev Files : List NumberedObject → Type 0
Files [] = Unit {0}
Files (x ∷ xs) = AreBytes x.object.file × Files xs

files_from : (os : List ObjectValue) (number first : ℕ) → All (λ (o : ObjectValue). AreBytes o.file) os → Files (numbered_objects_from number first os)
files_from [] number first h = tt
files_from (o ∷ os) number first h = (h 0 o (omega arith), files_from os (number + 1) (first + length o.sections) (λ k d l. h (suc k) d (omega arith)))

-- ---- sections

section_by : (b : Bool) (address : ℕ → ℕ) (x : NumberedObject) (m : List ℕ) (k : ℕ) (head : SectionHead) → AreBytes x.object.file → AreBytes m → AreBytes (cond b (bytes_put m (address (x.first + k)) (part x.object head.bytes)) m)
section_by false address x m k head f h = h
section_by true address x m k head f h =
    put_bytes m (address (x.first + k)) (part x.object head.bytes) h
    (All-take IsByte (head.bytes.end - head.bytes.start) (drop head.bytes.start x.object.file) (All-drop IsByte head.bytes.start x.object.file f))

sections_by : (address : ℕ → ℕ) (x : NumberedObject) (m : List ℕ) (i : ℕ) (heads : List SectionHead) → AreBytes x.object.file → AreBytes m → AreBytes (fold_at (put_section address x) m i heads)
unfolding put_section
sections_by address x m i [] f h = h
sections_by address x m i (head ∷ heads) f h =
    sections_by address x (put_section address x m i head) (i + 1) heads f (section_by (is_loaded_head head) address x m i head f h)

all_sections : (address : ℕ → ℕ) (xs : List NumberedObject) (m : List ℕ) → Files xs → AreBytes m → AreBytes (fold (put_sections address) m xs)
all_sections address [] m f h = h
all_sections address (x ∷ xs) m f h = all_sections address xs (put_sections address m x) f.1 (sections_by address x m 0 x.object.sections f.0 h)

-- ---- fields

field_bytes : (address : ℕ → ℕ) (numbers : List ℕ) (x : NumberedObject) (m : List ℕ) (r : Relocation) → AreBytes m → AreBytes (put_field address numbers x m r)
unfolding put_field
field_bytes address numbers x m r h = by (slice_get x.object.sections r.target)
  where
    by : (found : Option SectionHead) → AreBytes (option_map_or (put_field_to address numbers x m r) found m)
    by None = h
    by (Some s) =
        let at = target_address address x r in
        let old = memory_part m at (file_size s) in
        let b = All-take IsByte (file_size s) (drop at m) (All-drop IsByte at m h) in
        put_bytes m at (with_field r.kind (field_place address x r) (symbol_sum numbers r) r.offset old) h
        (keeps_bytes r.kind (field_place address x r) (symbol_sum numbers r) r.offset old b)

fields_by : (address : ℕ → ℕ) (numbers : List ℕ) (x : NumberedObject) (rs : List Relocation) (m : List ℕ) → AreBytes m → AreBytes (fold (put_field address numbers x) m rs)
fields_by address numbers x [] m h = h
fields_by address numbers x (r ∷ rs) m h = fields_by address numbers x rs (put_field address numbers x m r) (field_bytes address numbers x m r h)

all_fields : (l : Linking) (xs : List NumberedObject) (m : List ℕ) → AreBytes m → AreBytes (fold (put_fields l) m xs)
all_fields l [] m h = h
all_fields l (x ∷ xs) m h = all_fields l xs (put_fields l m x) (fields_by l.address (numbers_in l x) x x.object.relocations m h)

-- ---- stubs and vectors

word_small : (w : ℕ) → AreBytes (word_bytes w)
word_small w = All-cons IsByte (w % 256) (w / 256 % 256 ∷ []) (omega arith) (All-cons IsByte (w / 256 % 256) [] (omega arith) (All-nil IsByte))

words_small : (ws : List ℕ) → AreBytes (flat_map word_bytes ws)
words_small [] = All-nil IsByte
words_small (w ∷ ws) = All-append IsByte (word_bytes w) (flat_map word_bytes ws) (word_small w) (words_small ws)

stubs_by : (l : Linking) (end : ℕ → ℕ) (i : ℕ) (xs : List ModuleValue) (m : List ℕ) → AreBytes m → AreBytes (fold_at (put_stub l end) m i xs)
unfolding put_stub
stubs_by l end i [] m h = h
stubs_by l end i (x ∷ xs) m h =
    stubs_by l end (i + 1) xs (put_stub l end m i x) (put_bytes m x.text.start (flat_map word_bytes (stub_of l end i x)) h (words_small (stub_of l end i x)))

vectors_by : (l : Linking) (vs : List VectorValue) (m : List ℕ) → AreBytes m → AreBytes (fold (put_vector l) m vs)
unfolding put_vector
vectors_by l [] m h = h
vectors_by l (v ∷ vs) m h =
    vectors_by l vs (put_vector l m v) (put_bytes m (65504 + 2 * v.vector) (word_bytes (word_named l v.name)) h (word_small (word_named l v.name)))

zeros_small : AreBytes blank_memory
unfolding blank_memory
zeros_small = All-replicate IsByte 65536 0 (omega arith)

-- each byte of the image's memory is one
pub memory_bytes : (l : Linking) (end : ℕ → ℕ) (layout : LayoutValue) (os : List ObjectValue) → All (λ (o : ObjectValue). AreBytes o.file) os → AreBytes (memory_by l end layout os blank_memory)
memory_bytes l end layout os h =
    vectors_by l layout.vectors _ (stubs_by l end 0 layout.modules _ (all_fields l (numbered_objects os) _ (all_sections l.address (numbered_objects os) blank_memory (files_from os 0 0 h) zeros_small)))
