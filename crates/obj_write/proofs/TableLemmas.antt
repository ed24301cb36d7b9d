-- String tables and the list of sections as they grow.
use Rattle.std.proofs.Common.{◌≡◌, ℕ, ◌+◌, ◌<◌, ◌≤◌, List, [], ◌∷◌, ◌++◌, refl, ap, sym, ◌∙◌, arith, append_assoc, length, get_or, replicate}
use Rattle.std.specs.List.{flat_map}
use Rattle.std.proofs.lemmas.List.{flat_map_more, take-append-le, take_all, length_push, get_or_at, get_or_append_left}
use Rattle.elf_objects.specs.Passes.{each_below, all_below}
use Rattle.elf_objects.proofs.PassLemmas.{each_below_more, each_below_zero, length_each_below, at_each}
use Rattle.obj_write.specs.declared.strings.Strings.{Strings}
use Rattle.obj_write.specs.declared.sections.Head.{Head}
use Rattle.obj_write.specs.declared.sections.Sections.{Sections}
use Rattle.elf_objects.specs.Numbers.{file_header_size, section_header_size}
use Rattle.obj_write.specs.Bytes.{padded_bytes}
use Rattle.obj_write.specs.Strings.{terminated, string_table, name_at}
use Rattle.obj_write.specs.internal.Strings.{IsTableOf}
use Rattle.obj_write.specs.Sections.{FileSection, padded_contents, content_at, head_of, heads_of, head_bytes, header_table}
use Rattle.obj_write.specs.internal.Sections.{AreSections}
use Rattle.obj_write.proofs.PassLemmas.{each_below_same, flat_map_each, each_numbered}

-- ---- string tables

-- the names after it do not move a name
pub name_at-append : (names more : List (List ℕ)) (k : ℕ) → k ≤ length names → name_at (names ++ more) k ≡ name_at names k
unfolding name_at
name_at-append names more k le = ap (λ l. length (string_table l)) (take-append-le k names more le)

name_at_end : (names more : List (List ℕ)) → name_at (names ++ more) (length names) ≡ length (string_table names)
unfolding name_at
name_at_end names more = ap (λ l. length (string_table l)) (take-append-le (length names) names more (omega arith) ∙ take_all (length names) names (omega arith))

string_table_more : (names : List (List ℕ)) (name : List ℕ) → string_table (names ++ name ∷ []) ≡ string_table names ++ terminated name
unfolding string_table
string_table_more names name = sym (flat_map_more terminated (0 ∷ []) names name)

places_more : (names : List (List ℕ)) (name : List ℕ)
    → each_below (name_at (names ++ name ∷ [])) (length (names ++ name ∷ [])) ≡ each_below (name_at names) (length names) ++ length (string_table names) ∷ []
places_more names name =
    ap (each_below (name_at (names ++ name ∷ []))) (length_push names name)
    ∙ (each_below_more (name_at (names ++ name ∷ [])) (length names)
    ∙ (ap (λ l. l ++ name_at (names ++ name ∷ []) (length names) ∷ []) (each_below_same (name_at (names ++ name ∷ [])) (name_at names) (length names) (λ k lt. name_at-append names (name ∷ []) k (omega arith)))
    ∙ ap (λ (n : ℕ). each_below (name_at names) (length names) ++ n ∷ []) (name_at_end names (name ∷ []))))

pub no_names : (s : Strings) → s.bytes.items ≡ 0 ∷ [] → s.places.items ≡ [] → IsTableOf [] s
unfolding string_table
no_names s bytes places = record { bytes = bytes; places = places ∙ sym (each_below_zero (name_at [])) }

-- a name more
pub names_more : (names : List (List ℕ)) (first rest : List ℕ) (old new : Strings)
    → new.places.items ≡ old.places.items ++ length old.bytes.items ∷ []
    → new.bytes.items ≡ ((old.bytes.items ++ first) ++ rest) ++ 0 ∷ []
    → IsTableOf names old → IsTableOf (names ++ (first ++ rest) ∷ []) new
names_more names first rest old new places bytes is = record {
  bytes =
      bytes ∙ (ap (λ l. l ++ 0 ∷ []) (append_assoc old.bytes.items first rest)
      ∙ (append_assoc old.bytes.items (first ++ rest) (0 ∷ [])
      ∙ (ap (λ l. l ++ terminated (first ++ rest)) is.bytes ∙ sym (string_table_more names (first ++ rest)))));
  places =
      places ∙ (ap (λ l. l ++ length old.bytes.items ∷ []) is.places
      ∙ (ap (λ l. each_below (name_at names) (length names) ++ length l ∷ []) is.bytes ∙ sym (places_more names (first ++ rest))));
}

-- a name's place
pub place_is : (names : List (List ℕ)) (s : Strings) (k : ℕ) → IsTableOf names s → k < length names → get_or s.places.items k 0 ≡ name_at names k
place_is names s k is lt = ap (λ l. get_or l k 0) is.places ∙ at_each (name_at names) (length names) k 0 lt

-- ---- sections

-- a section for a place past the end
abbrev pub no_section : FileSection
no_section = record {
  head = record { name = 0; kind = 0; flags = 0; offset = 0; size = 0; link = 0; info = 0; align = 0; entry_size = 0 };
  content = [];
}

-- the header of this index
abbrev pub head_at : List FileSection → ℕ → Head
head_at sections k = head_of sections k (get_or sections k no_section)

heads_each : (sections : List FileSection) → heads_of sections ≡ each_below (head_at sections) (length sections)
unfolding heads_of
heads_each sections = each_numbered (head_of sections) sections no_section

pub length_heads : (sections : List FileSection) → length (heads_of sections) ≡ length sections
length_heads sections = ap length (heads_each sections) ∙ length_each_below (head_at sections) (length sections)

pub table_below : (sections : List FileSection) → header_table sections ≡ replicate section_header_size 0 ++ all_below (λ k. head_bytes (head_at sections k)) (length sections)
unfolding header_table
table_below sections =
    ap (λ l. replicate section_header_size 0 ++ l) (ap (flat_map head_bytes) (heads_each sections) ∙ flat_map_each head_bytes (head_at sections) (length sections))

contents_more : (sections : List FileSection) (s : FileSection) → padded_contents (sections ++ s ∷ []) ≡ padded_contents sections ++ padded_bytes s.content
unfolding padded_contents
contents_more sections s = sym (flat_map_more (λ (t : FileSection). padded_bytes t.content) [] sections s)

pub content_at-append : (sections more : List FileSection) (k : ℕ) → k ≤ length sections → content_at (sections ++ more) k ≡ content_at sections k
unfolding content_at
content_at-append sections more k le = ap (λ l. file_header_size + length (padded_contents l)) (take-append-le k sections more le)

content_at_end : (sections more : List FileSection) → content_at (sections ++ more) (length sections) ≡ file_header_size + length (padded_contents sections)
unfolding content_at
content_at_end sections more =
    ap (λ l. file_header_size + length (padded_contents l)) (take-append-le (length sections) sections more (omega arith) ∙ take_all (length sections) sections (omega arith))

head_at-append : (sections more : List FileSection) (k : ℕ) → k < length sections → head_at (sections ++ more) k ≡ head_at sections k
unfolding head_of
head_at-append sections more k lt =
    ap (λ (s : FileSection). record s.head { offset = content_at (sections ++ more) k }) (get_or_append_left sections more no_section k lt)
    ∙ ap (λ (at : ℕ). record ((get_or sections k no_section).head) { offset = at }) (content_at-append sections more k (omega arith))

head_at_end : (sections : List FileSection) (s : FileSection) → head_at (sections ++ s ∷ []) (length sections) ≡ record s.head { offset = file_header_size + length (padded_contents sections) }
unfolding head_of
head_at_end sections s =
    ap (λ (t : FileSection). record t.head { offset = content_at (sections ++ s ∷ []) (length sections) }) (get_or_at sections s [] no_section (length sections) refl)
    ∙ ap (λ (at : ℕ). record s.head { offset = at }) (content_at_end sections (s ∷ []))

heads_more : (sections : List FileSection) (s : FileSection)
    → heads_of (sections ++ s ∷ []) ≡ heads_of sections ++ record s.head { offset = file_header_size + length (padded_contents sections) } ∷ []
heads_more sections s =
    let more : List FileSection = sections ++ s ∷ [] in
    let before : each_below (head_at more) (length sections) ≡ heads_of sections
    = each_below_same (head_at more) (head_at sections) (length sections) (λ k lt. head_at-append sections (s ∷ []) k lt) ∙ sym (heads_each sections) in
    heads_each more
    ∙ (ap (each_below (head_at more)) (length_push sections s)
    ∙ (each_below_more (head_at more) (length sections)
    ∙ (ap (λ l. l ++ head_at more (length sections) ∷ []) before
    ∙ ap (λ (h : Head). heads_of sections ++ h ∷ []) (head_at_end sections s))))

-- a section more
pub sections_more : (sections : List FileSection) (head : Head) (content : List ℕ) (old new : Sections)
    → new.contents.items ≡ old.contents.items ++ padded_bytes content
    → new.heads.items ≡ old.heads.items ++ record head { offset = file_header_size + length old.contents.items } ∷ []
    → AreSections sections old → AreSections (sections ++ record { head = head; content = content } ∷ []) new
sections_more sections head content old new contents heads are =
    let s : FileSection = record { head = head; content = content } in record {
      contents = contents ∙ (ap (λ l. l ++ padded_bytes content) are.contents ∙ sym (contents_more sections s));
      heads =
          heads ∙ (ap (λ l. l ++ record head { offset = file_header_size + length old.contents.items } ∷ []) are.heads
          ∙ (ap (λ (l : List ℕ). heads_of sections ++ record head { offset = file_header_size + length l } ∷ []) are.contents
          ∙ sym (heads_more sections s)));
    }

-- contents and then headers
pub put_is : (s : Sections) (o r₁ r₂ r₃ : List ℕ)
    → r₁ ≡ o ++ s.contents.items → r₂ ≡ r₁ ++ replicate section_header_size 0 → r₃ ≡ r₂ ++ flat_map head_bytes s.heads.items
    → (sections : List FileSection) → AreSections sections s → r₃ ≡ o ++ (padded_contents sections ++ header_table sections)
unfolding header_table
put_is s o r₁ r₂ r₃ e₁ e₂ e₃ sections are =
    let z : List ℕ = replicate section_header_size 0 in
    let h : List ℕ = flat_map head_bytes (heads_of sections) in
    e₃ ∙ (ap (λ l. r₂ ++ flat_map head_bytes l) are.heads ∙ (ap (λ l. l ++ h) (e₂ ∙ ap (λ l. l ++ z) (e₁ ∙ ap (λ l. o ++ l) are.contents))
    ∙ (append_assoc (o ++ padded_contents sections) z h ∙ append_assoc o (padded_contents sections) (z ++ h))))
