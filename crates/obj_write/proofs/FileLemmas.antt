-- What the object reader reads of a file of sections: its header and the headers of its sections.
use Rattle.std.proofs.Common.{◌≡◌, ℕ, zero, suc, ◌+◌, ◌*◌, ◌<◌, ◌≤◌, ◌^◌, List, [], ◌++◌, refl, ap, sym, subst, ◌∙◌, arith, length, length-append, take, drop, false, ltb, slice_index, Option, None, replicate}
use Rattle.std.proofs.lemmas.Bool.Decides.{nat_tests}
use Rattle.std.proofs.lemmas.List.{append-nil}
use Rattle.elf_objects.specs.Bytes.{half_at, long_at}
use Rattle.elf_objects.specs.Passes.{all_below, first_below}
use Rattle.elf_objects.specs.Header.{table_offset, section_count, name_table, header_fault, table_fault}
use Rattle.elf_objects.specs.Section.{header_of}
use Rattle.obj_write.specs.declared.sections.Head.{Head}
use Rattle.elf_objects.specs.Numbers.{file_header_size, section_header_size}
use Rattle.obj_write.specs.Sections.{FileSection, padded_contents, head_bytes, header_table}
use Rattle.obj_write.specs.Object.{file_header, file_bytes}
use Rattle.obj_write.proofs.ReadLemmas.{Stands, stands_left, stands_right, stands_within, stands_part, word_read, half_read, byte_read, IsSmall, header, header_read, stands_below, length_below}
use Rattle.obj_write.proofs.TableLemmas.{head_at, table_below}

-- ---- tests

-- nothing is found below a count
pub nothing_below : {A : Type 0} (f : ℕ → Option A) (n : ℕ) → ((k : ℕ) → k < n → f k ≡ None) → first_below f n ≡ None
unfolding first_below
nothing_below f zero each = refl
nothing_below f (suc n) each = rw (nothing_below f n (λ k lt. each k (omega arith))) (each n (omega arith))

-- ---- the file

-- where the table of headers stands
abbrev pub table_place : List FileSection → ℕ
table_place sections = file_header_size + length (padded_contents sections)

-- what is read of a file of sections
pub record IsLaid (sections : List FileSection) (names : ℕ) (file : List ℕ) : Type 0 where
  pub contents : Stands file file_header_size (padded_contents sections)
  pub headers : Stands file (table_place sections) (replicate section_header_size 0 ++ all_below (λ k. head_bytes (head_at sections k)) (length sections))
  pub table : table_offset file ≡ table_place sections
  pub count : section_count file ≡ length sections + 1
  pub strings : name_table file ≡ names
  pub header_none : header_fault file ≡ None
  pub table_none : table_fault file ≡ None

pub stands_whole : (file bytes : List ℕ) → file ≡ bytes → Stands file 0 bytes
stands_whole file bytes e = record { front = []; rest = []; whole = e ∙ sym (append-nil bytes); begun = refl }

pub length_headers : (sections : List FileSection) → length (header_table sections) ≡ 40 + 40 * length sections
unfolding head_bytes
length_headers sections =
    let f : ℕ → List ℕ = λ k. head_bytes (head_at sections k) in
    let e = ap length (table_below sections) in
    let a = length-append (replicate section_header_size 0) (all_below f (length sections)) in
    let b = length_below f 40 (length sections) (λ k lt. refl) in
    omega (arith, e, a, b)

-- the fields of the header that are read
record IsHeaded (file : List ℕ) (table count names : ℕ) : Type 0 where
  magic : long_at file 0 ≡ 0x464c457f
  class : slice_index file 4 ≡ 1
  order : slice_index file 5 ≡ 1
  version : slice_index file 6 ≡ 1
  kind : half_at file 16 ≡ 1
  machine : half_at file 18 ≡ 105
  version_too : long_at file 20 ≡ 1
  table_at : long_at file 32 ≡ table
  entry : half_at file 46 ≡ 40
  counted : half_at file 48 ≡ count
  strings_at : half_at file 50 ≡ names

headed : (file : List ℕ) (table count names : ℕ) → table < 2 ^ 32 → count < 2 ^ 16 → names < 2 ^ 16 → Stands file 0 (file_header table count names) → IsHeaded file table count names
unfolding file_header
headed file table count names small few low s =
    let part : (n m : ℕ) → ltb 52 n ≡ false → Stands file (0 + n) (take m (drop n (file_header table count names))) = λ n m within. stands_part file (file_header table count names) 0 n m within s in
    record {
      magic = word_read file 0 0x464c457f (omega arith) (part 0 4 refl);
      class = byte_read file 4 1 [] (part 4 1 refl);
      order = byte_read file 5 1 [] (part 5 1 refl);
      version = byte_read file 6 1 [] (part 6 1 refl);
      kind = half_read file 16 1 (omega arith) (part 16 2 refl);
      machine = half_read file 18 105 (omega arith) (part 18 2 refl);
      version_too = word_read file 20 1 (omega arith) (part 20 4 refl);
      table_at = word_read file 32 table small (part 32 4 refl);
      entry = half_read file 46 40 (omega arith) (part 46 2 refl);
      counted = half_read file 48 count few (part 48 2 refl);
      strings_at = half_read file 50 names low (part 50 2 refl);
    }

pub laid : (sections : List FileSection) (names : ℕ) → table_place sections < 2 ^ 32 → length sections + 1 < 2 ^ 16 → names < 2 ^ 16 → IsLaid sections names (file_bytes sections names)
unfolding file_bytes file_header header_fault table_fault
laid sections names small few low =
    let file : List ℕ = file_bytes sections names in
    let first : List ℕ = file_header (table_place sections) (length sections + 1) names in
    let s = stands_whole file (first ++ (padded_contents sections ++ header_table sections)) refl in
    let h = headed file (table_place sections) (length sections + 1) names small few low (stands_left file 0 first (padded_contents sections ++ header_table sections) s) in
    let r = stands_right file 0 52 first (padded_contents sections ++ header_table sections) refl s in
    let t = stands_right file 52 (table_place sections) (padded_contents sections) (header_table sections) refl r in
    let within = stands_within file (table_place sections) (header_table sections) t in
    let n = length_headers sections in
    let ends : table_offset file + 40 * section_count file ≤ length file = let a = h.table_at in let b = ap (λ k. 40 * k) h.counted in omega (arith, within, n, a, b) in
    let short : ltb (length file) 52 ≡ false = let l = within in grind (arith, nat_tests) in
    let whole : ltb (length file) (table_offset file + 40 * section_count file) ≡ false = grind (arith, nat_tests) in
    record {
      contents = stands_left file 52 (padded_contents sections) (header_table sections) r;
      headers = subst (Stands file (table_place sections)) (table_below sections) t;
      table = h.table_at;
      count = h.counted;
      strings = h.strings_at;
      header_none = rw (short, h.magic, h.class, h.order, h.version, h.version_too, h.machine, h.kind) refl;
      table_none = rw (h.entry, whole) refl;
    }

-- ---- headers

abbrev pub no_head : Head
no_head = record { name = 0; kind = 0; flags = 0; offset = 0; size = 0; link = 0; info = 0; align = 0; entry_size = 0 }

-- section 0
pub first_header : (sections : List FileSection) (names : ℕ) (file : List ℕ) → IsLaid sections names file → header_of file 0 ≡ header no_head
unfolding head_bytes
first_header sections names file laid =
    let at : table_place sections ≡ table_offset file + 40 * 0 = let e = laid.table in omega (arith, e) in
    let f : ℕ → List ℕ = λ k. head_bytes (head_at sections k) in
    let small : IsSmall no_head = record { name = omega arith; kind = omega arith; flags = omega arith; offset = omega arith; size = omega arith; link = omega arith; info = omega arith; align = omega arith; entry_size = omega arith } in
    header_read file 0 no_head small
    (subst (λ (n : ℕ). Stands file n (head_bytes no_head)) at (stands_left file (table_place sections) (head_bytes no_head) (all_below f (length sections)) laid.headers))

-- the sections after it
pub next_header : (sections : List FileSection) (names : ℕ) (file : List ℕ) (k : ℕ) → IsLaid sections names file → k < length sections → IsSmall (head_at sections k)
    → header_of file (suc k) ≡ header (head_at sections k)
unfolding head_bytes
next_header sections names file k laid lt small =
    let f : ℕ → List ℕ = λ j. head_bytes (head_at sections j) in
    let r = stands_right file (table_place sections) (table_place sections + 40) (replicate section_header_size 0) (all_below f (length sections)) refl laid.headers in
    let n = length_below f 40 k (λ j l. refl) in
    let e = laid.table in
    let at : table_place sections + 40 + length (all_below f k) ≡ table_offset file + 40 * suc k = omega (arith, n, e) in
    header_read file (suc k) (head_at sections k) small
    (subst (λ (m : ℕ). Stands file m (head_bytes (head_at sections k))) at (stands_below file (table_place sections + 40) f (length sections) k lt r))
