-- What the object reader gives of a unit's file.
use Rattle.std.specs.Prelude.{◌≡◌, ℕ, ◌+◌, ◌%◌, ◌^◌, ◌<◌, Bool, true, false, List, length, map, Option, Some, None, slice_get, slice_range, pos}
use Rattle.std.specs.List.{flat_map, enumerate_from}
use Rattle.elf_objects.specs.declared.object.SectionHead.{SectionHead}
use Rattle.elf_objects.specs.declared.object.Symbol.{Symbol}
use Rattle.elf_objects.specs.declared.object.Relocation.{Relocation}
use Rattle.elf_objects.specs.declared.object.Binding.{Binding}
use Rattle.elf_objects.specs.declared.object.Binding.TheVariants as binding
use Rattle.elf_objects.specs.declared.object.Home.{Home}
use Rattle.elf_objects.specs.declared.object.Home.TheVariants as home
use Rattle.elf_objects.specs.Section.{is_loaded}
use Rattle.elf_objects.specs.Object.{ObjectValue}
use Rattle.asm_text.specs.declared.unit.AsmRelocation.{AsmRelocation}
use Rattle.asm_text.specs.Parts.{SectionValue, SymbolValue, UnitValue}
use Rattle.obj_write.specs.Relocations.{word_field, relocations_in}
use Rattle.obj_write.specs.Object.{section_align, section_type, section_flags, relocated_in}

-- the section is the unit's, with its name and its bytes
pub record IsPartRead (file : List ℕ) (s : SectionValue) (head : SectionHead) : Type 0 where
  pub name : slice_range file head.name.start head.name.end ≡ s.name
  pub kind : head.kind ≡ section_type s.kind
  pub flags : head.flags ≡ section_flags s.kind
  pub size : head.size ≡ s.size
  pub align : head.align ≡ section_align
  pub bytes : slice_range file head.bytes.start head.bytes.end ≡ s.bytes

abbrev pub binding_read : Bool → Binding
binding_read true = binding.Global
binding_read false = binding.Local

-- the unit's section of this index has the next index in the file
abbrev pub home_read : Option ℕ → Home
home_read None = home.Undefined
home_read (Some section) = home.In (section + 1)

-- the symbol is the unit's; its value is a number of 32 bits
pub record IsSymbolOf (file : List ℕ) (s : SymbolValue) (symbol : Symbol) : Type 0 where
  pub name : slice_range file symbol.name.start symbol.name.end ≡ s.name
  pub value : symbol.value ≡ s.value % 2 ^ 32
  pub size : symbol.size ≡ 0
  pub binding : symbol.binding ≡ binding_read s.global
  pub home : symbol.home ≡ home_read s.home

-- the relocation of this place among those of a section, which stand in the table of this index; its offset is a number of 32 bits
abbrev pub relocation_read : ℕ → ℕ → ℕ → AsmRelocation → Relocation
relocation_read table section entry r = record {
  table = table;
  entry = entry;
  target = section + 1;
  offset = r.offset % 2 ^ 32;
  symbol = r.symbol + 1;
  kind = word_field;
  addend = pos 0;
}

-- those of one table; the tables follow section 0, the unit's sections and three more
abbrev pub table_read : UnitValue → ℕ → ℕ → List Relocation
table_read unit j section =
    map (λ (p : ℕ × AsmRelocation). relocation_read (length unit.sections + 4 + j) section p.0 p.1) (enumerate_from 0 (relocations_in unit.relocations section))

-- the object has the unit's sections, symbols and relocations, and beside them only section 0, symbol 0 and tables
pub record IsObjectOf (unit : UnitValue) (object : ObjectValue) : Type 0 where
  pub section_count : length object.sections ≡ length unit.sections + 4 + length (relocated_in unit)
  pub sections : (k : ℕ) (s : SectionValue) (head : SectionHead) → slice_get unit.sections k ≡ Some s → slice_get object.sections (k + 1) ≡ Some head → IsPartRead object.file s head
  pub null : (head : SectionHead) → slice_get object.sections 0 ≡ Some head → is_loaded head.kind head.flags ≡ false
  pub tables : (k : ℕ) (head : SectionHead) → length unit.sections < k → slice_get object.sections k ≡ Some head → is_loaded head.kind head.flags ≡ false
  pub symbol_count : length object.symbols ≡ length unit.symbols + 1
  pub symbols : (k : ℕ) (s : SymbolValue) (symbol : Symbol) → slice_get unit.symbols k ≡ Some s → slice_get object.symbols (k + 1) ≡ Some symbol → IsSymbolOf object.file s symbol
  pub relocations : object.relocations ≡ flat_map (λ (p : ℕ × ℕ). table_read unit p.0 p.1) (enumerate_from 0 (relocated_in unit))
