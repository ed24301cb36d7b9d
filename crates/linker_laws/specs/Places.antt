-- Where everything in a linked image lies.
use Rattle.std.specs.Prelude.{◌≡◌, ◌≢◌, ◌≤◌, ◌+◌, ◌%◌, ℕ, List, Some, None, max, slice_get}
use Rattle.mod_layout.specs.declared.Section.{Section}
use Rattle.mod_layout.specs.declared.TheConstants.{FIRST_VECTOR}
use Rattle.elf_objects.specs.Object.{ObjectValue}
use Rattle.layout_file.specs.Overlaps.{ShareNoByte}
use Rattle.layout_file.specs.Sound.{IsLayout}
use Rattle.layout_file.specs.Values.{ModuleValue, LayoutValue, regions}
use Rattle.link_symbols.specs.declared.item.Item.{Item}
use Rattle.link_symbols.specs.declared.item.Part.{Part}
use Rattle.link_symbols.specs.Resolved.{items_of}
use Rattle.linker.specs.Placement.{starts_of, address_at, module_stub_size}
use Rattle.linker.specs.Refusals.{link_fault_of}

-- what takes bytes: an item, a section or a common, with its number; the entry stub of a module, with its table;
-- the two words and the stack at the start of a module's data; the vectors
pub data Piece : Type 0 where
  an_item : (k : ℕ) (i : Item) → Piece
  a_stub : (i : ℕ) → Piece
  a_stack : (i : ℕ) → Piece
  the_vectors : Piece

-- so many bytes from an address on
abbrev pub span : ℕ → ℕ → Section
span at size = record { start = at; end = at + size }

-- the bytes of an item, where it stands
abbrev pub item_span : LayoutValue → List ObjectValue → ℕ → Item → Section
item_span layout objects k i = span (address_at (starts_of layout) (items_of layout objects) k) i.size

-- a piece, the bytes that it takes, and the region of the layout that is to hold it
pub data Lies (layout : LayoutValue) (objects : List ObjectValue) : Piece → Section → Section → Type 0 where
  item_lies : (k : ℕ) (i : Item) (p : Part) (r : Section) → slice_get (items_of layout objects) k ≡ Some i →
      i.part ≡ Some p → slice_get (regions layout.text layout.ram layout.modules) p.region ≡ Some r →
      Lies layout objects (an_item k i) (item_span layout objects k i) r
  stub_lies : (i : ℕ) (m : ModuleValue) → slice_get layout.modules i ≡ Some m →
      Lies layout objects (a_stub i) (span m.text.start (module_stub_size m)) m.text
  stack_lies : (i : ℕ) (m : ModuleValue) → slice_get layout.modules i ≡ Some m →
      Lies layout objects (a_stack i) (span m.ram.start (4 + m.stack)) m.ram
  vectors_lie : Lies layout objects the_vectors (span FIRST_VECTOR 32) (span FIRST_VECTOR 32)

-- each section or common that goes to a part lies somewhere
abbrev pub ItemsLie : Type 0
ItemsLie = (layout : LayoutValue) (objects : List ObjectValue) (k : ℕ) (i : Item) →
    slice_get (items_of layout objects) k ≡ Some i → i.part ≢ None →
    (s : Section) × ((r : Section) × Lies layout objects (an_item k i) s r)

-- all bytes of a section are another's
pub record IsInside (s r : Section) : Type 0 where
  pub start : r.start ≤ s.start
  pub end : s.end ≤ r.end

-- each piece lies inside its region
abbrev pub LiesInside : Type 0
LiesInside = (layout : LayoutValue) (objects : List ObjectValue) → IsLayout layout →
    link_fault_of layout objects ≡ None → (p : Piece) (s r : Section) → Lies layout objects p s r → IsInside s r

-- no two pieces share a byte
abbrev pub LieApart : Type 0
LieApart = (layout : LayoutValue) (objects : List ObjectValue) → IsLayout layout →
    link_fault_of layout objects ≡ None → (p q : Piece) (s t a b : Section) →
    Lies layout objects p s a → Lies layout objects q t b → p ≢ q → ShareNoByte s t

-- an item's alignment is at least 2
abbrev pub alignment_of : Piece → ℕ
alignment_of (an_item k i) = max i.align 2
alignment_of _ = 2

-- each piece starts at a multiple of its alignment
abbrev pub LiesAligned : Type 0
LiesAligned = (layout : LayoutValue) (objects : List ObjectValue) → IsLayout layout →
    (p : Piece) (s r : Section) → Lies layout objects p s r → s.start % alignment_of p ≡ 0
