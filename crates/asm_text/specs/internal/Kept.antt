-- What every source keeps.
use Rattle.std.specs.Prelude.{◌≢◌, ◌+◌, ◌*◌, ◌≤◌, length, AllPairs}
use Rattle.asm_text.specs.declared.TheConstants.{MAX_ENTRIES, MAX_LABELS}
use Rattle.asm_text.specs.internal.Emitted.{AreNames}
use Rattle.asm_text.specs.internal.Known.{AreKnown, AreNamed}
use Rattle.asm_text.specs.Source.{SourceRead}

pub record IsSource (s : SourceRead) : Type 0 where
  pub few_names : MAX_LABELS + length s.tables.names ≤ MAX_ENTRIES
  pub few_statements : 2 * length s.statements ≤ MAX_ENTRIES
  pub known : AreKnown (length s.tables.names) s.statements
  pub named : AreNamed (length s.tables.sections) s.statements
  pub names : AreNames s.tables.names
  pub sections : AreNames s.tables.sections
  pub names_differ : AllPairs (λ a b. a ≢ b) s.tables.names
  pub sections_differ : AllPairs (λ a b. a ≢ b) s.tables.sections
