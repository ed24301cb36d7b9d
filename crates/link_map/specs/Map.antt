-- The map of linked objects: where modules, sections, commons, entries, vectors and symbols stand.
use Rattle.std.specs.Prelude.{ℕ, ◌+◌, List, [], ◌∷◌, ◌++◌, length, Bool, true, false, not, ◌&&◌, ◌==◌, nat_lt, Option, Some, None, ◌*◌, slice_get, slice_index, flat_map, codes}
use Rattle.std.specs.Fmt.{decimal}
use Rattle.elf_objects.specs.Object.{ObjectValue}
use Rattle.entry_stubs.specs.Stub.{front_words}
use Rattle.image_text.specs.Image.{Image}
use Rattle.elf_objects.specs.declared.object.Binding.{Binding}
use Rattle.elf_objects.specs.declared.object.Binding.TheVariants as binding
use Rattle.elf_objects.specs.declared.object.Home.{Home}
use Rattle.elf_objects.specs.declared.object.Home.TheVariants as home
use Rattle.elf_objects.specs.declared.object.SectionHead.{SectionHead}
use Rattle.elf_objects.specs.declared.object.Symbol.{Symbol}
use Rattle.layout_file.specs.Values.{LayoutValue, VectorValue}
use Rattle.linker.specs.Image.{linked_image}
use Rattle.link_symbols.specs.Commons.{Common, commons_of}
use Rattle.link_symbols.specs.Names.{count_sections}
use Rattle.linker.specs.Numbers.{Linking, linking_of, region_end, linked_number}
use Rattle.link_symbols.specs.Parts.{is_loaded_head}
use Rattle.link_symbols.specs.Passes.{NumberedObject, numbered_objects, part}
use Rattle.link_symbols.specs.Symbols.{named_symbols}
use Rattle.linker.specs.Placement.{text_of, ram_of}
use Rattle.sm_words.specs.Words.{word_at}
use Rattle.mod_layout.specs.declared.TheConstants.{FIRST_VECTOR}
use Rattle.mod_layout.specs.declared.Section.{Section}
use Rattle.mod_layout.specs.Table.{Table}
use Rattle.link_map.specs.Lines.{line, address_text, name_shown, numbered_text}
use Rattle.link_map.specs.Modules.{PlacedModule, by_id, id_at}
use Rattle.link_map.specs.Parts.{PartValue, parts_of}

-- `module ID NAME` and its two sections in the image
abbrev pub module_text : ℕ → List ℕ → Section → Section → List ℕ
module_text id name text ram = line (codes "module") (decimal id ∷ name_shown name ∷ address_text text.start ∷ address_text text.end ∷ address_text ram.start ∷ address_text ram.end ∷ [])

abbrev pub map_module_line : (ℕ → ℕ) → ℕ → PlacedModule → List ℕ
map_module_line end id p = module_text id p.value.name (text_of end p.number p.value) (ram_of end p.number p.value)

-- `part START END ID OBJECT SECTION NAME`, where ID is that of the module that has it
abbrev pub part_line : Table → PartValue → List ℕ
part_line table p = line (codes "part") (address_text p.at ∷ address_text p.end ∷ decimal (id_at table p.at) ∷ decimal p.object ∷ decimal p.section ∷ name_shown p.name ∷ [])

-- `common START END NAME`
abbrev pub common_text : ℕ → ℕ → List ℕ → List ℕ
common_text at size name = line (codes "common") (address_text at ∷ address_text (at + size) ∷ name_shown name ∷ [])

-- of the k-th, whose item comes after those of the sections
abbrev pub common_line : (ℕ → ℕ) → ℕ → ℕ → Common → List ℕ
common_line address first k c = common_text (address (first + k)) c.size c.name

-- `entry ADDRESS ID K NAME`: the address that the table of the module's stub has for the k-th entry
abbrev pub entry_line : List ℕ → ℕ → ℕ → ℕ → List ℕ → List ℕ
entry_line memory start id k name =
    line (codes "entry") (address_text (word_at (slice_index memory) (start + 2 * front_words + 2 * k)) ∷ decimal id ∷ decimal k ∷ name_shown name ∷ [])

abbrev pub entry_lines : List ℕ → ℕ → PlacedModule → List ℕ
entry_lines memory id p = numbered_text (entry_line memory p.value.text.start id) 0 p.value.entries

-- `vector V ADDRESS NAME`: the word of the vector
abbrev pub vector_line : List ℕ → VectorValue → List ℕ
vector_line memory v = line (codes "vector") (decimal v.vector ∷ address_text (word_at (slice_index memory) (FIRST_VECTOR + 2 * v.vector)) ∷ name_shown v.name ∷ [])

abbrev pub kind_text : Binding → List ℕ
kind_text binding.Local = codes "local"
kind_text binding.Global = codes "global"
kind_text binding.Weak = codes "weak"

abbrev pub is_loaded_some : Option SectionHead → Bool
is_loaded_some None = false
is_loaded_some (Some head) = is_loaded_head head

-- in memory: a common, or in a loaded section
abbrev pub is_placed : ObjectValue → Home → Bool
is_placed o home.Undefined = false
is_placed o home.Absolute = false
is_placed o home.Common = true
is_placed o (home.In k) = is_loaded_some (slice_get o.sections k)

-- `symbol NUMBER ID KIND OBJECT NAME`
abbrev pub symbol_text : Table → ℕ → Binding → ℕ → List ℕ → List ℕ
symbol_text table n kind object name = line (codes "symbol") (address_text n ∷ decimal (id_at table n) ∷ kind_text kind ∷ decimal object ∷ name_shown name ∷ [])

abbrev pub symbol_text_if : Bool → List ℕ → List ℕ
symbol_text_if true text = text
symbol_text_if false text = []

-- a symbol of index 1 or more with a name has a line where it is in memory
abbrev pub is_shown : ObjectValue → ℕ → Symbol → Bool
is_shown o k s = nat_lt 0 k && not (length (part o s.name) == 0) && is_placed o s.home

abbrev pub symbol_line : Linking → Table → NumberedObject → ℕ → Symbol → List ℕ
symbol_line l table x k s = symbol_text_if (is_shown x.object k s)
    (symbol_text table (linked_number l x k s) s.binding x.number (part x.object s.name))

abbrev pub symbol_lines : Linking → Table → NumberedObject → List ℕ
symbol_lines l table x = numbered_text (symbol_line l table x) 0 x.object.symbols

abbrev pub map_by : Linking → (ℕ → ℕ) → Image → LayoutValue → List ObjectValue → List ℕ
map_by l end image layout objects =
    codes "sancus-map 1\n"
    ++ (numbered_text (map_module_line end) 1 (by_id layout)
    ++ (flat_map (part_line image.table) (parts_of l.address objects)
    ++ (numbered_text (common_line l.address (count_sections objects)) 0 (commons_of (named_symbols objects))
    ++ (numbered_text (entry_lines image.memory) 1 (by_id layout)
    ++ (flat_map (vector_line image.memory) layout.vectors
    ++ (flat_map (symbol_lines l image.table) (numbered_objects objects)
    ++ codes "end\n"))))))

-- the map of objects that link
unfoldable pub map_text : LayoutValue → List ObjectValue → List ℕ
map_text layout objects = map_by (linking_of layout objects) (region_end layout objects) (linked_image layout objects) layout objects
