-- Each byte of every image that is linked.
use Rattle.std.proofs.Common.{◌≡◌, ℕ, ◌+◌, ◌*◌, ◌%◌, List, drop, sym, subst}
use Rattle.std.specs.Prelude.{slice_index}
use Rattle.std.specs.List.{flat_map}
use Rattle.elf_objects.specs.Object.{ObjectValue}
use Rattle.byteorder.specs.Endian.{little_number}
use Rattle.image_text.specs.Image.{Image}
use Rattle.layout_file.specs.Values.{LayoutValue}
use Rattle.reloc_apply.specs.Fields.{row_of, row_size}
use Rattle.reloc_apply.specs.Applies.{limit_by, row_number}
use Rattle.linker.specs.Placement.{module_stub_size}
use Rattle.linker.specs.Numbers.{linking_of, numbers_in, region_end}
use Rattle.linker.specs.Bytes.{memory_part, word_bytes}
use Rattle.linker.specs.Fields.{symbol_sum}
use Rattle.linker.specs.Stubs.{word_named, stub_of}
use Rattle.linker.specs.Image.{Links, blank_memory, memory_by}
use Rattle.linker.proofs.LinkedLemmas.{memory_is}
use Rattle.linker_laws.specs.Contents.{section_address, SectionBytes, FieldNumbers, StubBytes, TableWords, VectorWords, ZeroElsewhere}
use Rattle.linker_laws.proofs.Contents.{section_bytes, field_numbers, stub_bytes, table_words, vector_words, zero_elsewhere}

of_image : (layout : LayoutValue) (objects : List ObjectValue) (image : Image) (P : List ℕ → Type 0) →
    Links layout objects image →
    P (memory_by (linking_of layout objects) (region_end layout objects) layout objects blank_memory) → P image.memory
of_image layout objects image P links h = subst P (sym (memory_is layout objects image links)) h

pub section_bytes_law : SectionBytes
section_bytes_law layout objects image i x k s h n b out =
    of_image layout objects image (λ m. slice_index m (section_address layout objects x k + n) ≡ slice_index x.object.file (s.bytes.start + n)) i.links (section_bytes layout objects i.layout_kept i.objects_kept i.links.unrefused x k s h n b out)

pub field_numbers_law : FieldNumbers
field_numbers_law layout objects image i n j x r f g apart =
    of_image layout objects image (λ m. little_number (row_size (row_of r.kind)) (drop (section_address layout objects x r.target + r.offset) m) % limit_by (row_of r.kind)
    ≡ row_number (row_of r.kind) ((section_address layout objects x r.target + r.offset) % 65536) (symbol_sum (numbers_in (linking_of layout objects) x) r)) i.links
    (field_numbers layout objects i.layout_kept i.objects_kept i.links.unrefused n j x r f g apart)

pub stub_bytes_law : StubBytes
stub_bytes_law layout objects image i k m f =
    of_image layout objects image (λ c. memory_part c m.text.start (module_stub_size m) ≡ flat_map word_bytes (stub_of (linking_of layout objects) (region_end layout objects) k m)) i.links (stub_bytes layout objects i.layout_kept i.objects_kept i.links.unrefused k m f)

pub table_words_law : TableWords
table_words_law layout objects image i j k m name f g =
    of_image layout objects image (λ c. memory_part c (m.text.start + 76 + 2 * k) 2 ≡ word_bytes (word_named (linking_of layout objects) name)) i.links (table_words layout objects i.layout_kept i.objects_kept i.links.unrefused j k m name f g)

pub vector_words_law : VectorWords
vector_words_law layout objects image i k v f =
    of_image layout objects image (λ c. memory_part c (65504 + 2 * v.vector) 2 ≡ word_bytes (word_named (linking_of layout objects) v.name)) i.links (vector_words layout objects i.layout_kept i.objects_kept i.links.unrefused k v f)

pub zero_elsewhere_law : ZeroElsewhere
zero_elsewhere_law layout objects image i a none = of_image layout objects image (λ m. slice_index m a ≡ 0) i.links (zero_elsewhere layout objects i.layout_kept i.objects_kept i.links.unrefused a none)
