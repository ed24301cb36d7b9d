-- The sections of a file after section 0: their headers and where their contents stand (TIS ELF 1.2, "Sections").
use Rattle.std.specs.Prelude.{ℕ, ◌+◌, List, [], ◌∷◌, ◌++◌, length, map, take, replicate}
use Rattle.std.specs.List.{flat_map, enumerate_from}
use Rattle.elf_objects.specs.Numbers.{file_header_size, section_header_size}
use Rattle.obj_write.specs.declared.sections.Head.{Head}
use Rattle.obj_write.specs.Bytes.{longs_bytes, padded_bytes}

-- a section: its header without a place, and its content
pub record FileSection : Type 0 where
  pub head : Head
  pub content : List ℕ

-- contents one after the other, each up to a multiple of 4
unfoldable pub padded_contents : List FileSection → List ℕ
padded_contents sections = flat_map (λ s. padded_bytes s.content) sections

-- where the content of this index stands: after the file's header and the contents before it
unfoldable pub content_at : List FileSection → ℕ → ℕ
content_at sections index = file_header_size + length (padded_contents (take index sections))

-- the header of the section of this index, with its place
unfoldable pub head_of : List FileSection → ℕ → FileSection → Head
head_of sections index s = record s.head { offset = content_at sections index }

-- the headers, in order
unfoldable pub heads_of : List FileSection → List Head
heads_of sections = map (λ (p : ℕ × FileSection). head_of sections p.0 p.1) (enumerate_from 0 sections)

-- the ten fields of a header; the address is 0
unfoldable pub head_bytes : Head → List ℕ
head_bytes h = longs_bytes (h.name ∷ h.kind ∷ h.flags ∷ 0 ∷ h.offset ∷ h.size ∷ h.link ∷ h.info ∷ h.align ∷ h.entry_size ∷ [])

-- the table of headers; that of section 0 is zeros
unfoldable pub header_table : List FileSection → List ℕ
header_table sections = replicate section_header_size 0 ++ flat_map head_bytes (heads_of sections)
