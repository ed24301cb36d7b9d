-- The parts of an object as values, and what they keep.
use Rattle.std.specs.Prelude.{◌≡◌, ◌≢◌, ℕ, ◌≤◌, ◌<◌, Bool, false, List, length, Option, Some, None, IsTrue, All, AllPairs}
use Rattle.asm_line.specs.declared.statement.SectionKind.{SectionKind}
use Rattle.asm_line.specs.declared.statement.SectionKind.TheVariants.{Code, Data, Bss}
use Rattle.asm_text.specs.declared.unit.AsmRelocation.{AsmRelocation}
use Rattle.asm_line.specs.declared.TheConstants.{MAX_SIZE}
use Rattle.asm_line.specs.Identifiers.{is_name}
use Rattle.asm_text.specs.declared.TheConstants.{MAX_SECTIONS, MAX_ENTRIES}

pub record SectionValue : Type 0 where
  pub name : List ℕ
  pub kind : SectionKind
  pub size : ℕ
  pub bytes : List ℕ

pub record SymbolValue : Type 0 where
  pub name : List ℕ
  pub global : Bool
  pub home : Option ℕ
  pub value : ℕ

pub record UnitValue : Type 0 where
  pub sections : List SectionValue
  pub symbols : List SymbolValue
  pub relocations : List AsmRelocation

-- ---- what is kept

-- how many of a section's bytes stand in the file
abbrev pub kept_size : SectionKind → ℕ → ℕ
kept_size Code size = size
kept_size Data size = size
kept_size Bss size = 0

pub record IsSectionValue (s : SectionValue) : Type 0 where
  pub named : IsTrue (is_name s.name)
  pub small : s.size ≤ MAX_SIZE
  pub filled : length s.bytes ≡ kept_size s.kind s.size

-- a local symbol has a home, and a home is a section
pub record IsSymbolValue (sections : ℕ) (s : SymbolValue) : Type 0 where
  pub named : IsTrue (is_name s.name)
  pub local : s.global ≡ false → s.home ≢ None
  pub home : (k : ℕ) → s.home ≡ Some k → k < sections

pub record IsAsmRelocation (sections symbols : ℕ) (r : AsmRelocation) : Type 0 where
  pub section : r.section < sections
  pub symbol : r.symbol < symbols

pub record IsUnit (u : UnitValue) : Type 0 where
  pub few_sections : length u.sections ≤ MAX_SECTIONS
  pub few_symbols : length u.symbols ≤ MAX_ENTRIES
  pub few_relocations : length u.relocations ≤ MAX_ENTRIES
  pub sections_kept : All IsSectionValue u.sections
  pub symbols_kept : All (IsSymbolValue (length u.sections)) u.symbols
  pub relocations_kept : All (IsAsmRelocation (length u.sections) (length u.symbols)) u.relocations
  pub sections_differ : AllPairs (λ a b. a.name ≢ b.name) u.sections
  pub symbols_differ : AllPairs (λ a b. a.name ≢ b.name) u.symbols
