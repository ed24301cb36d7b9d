-- What the code's tables and sources stand for.
use Rattle.asm_text.specs.declared.reading.Tables.{Tables as TablesKept}
use Rattle.asm_text.specs.declared.reading.Source.{Source as SourceKept}
use Rattle.asm_text.specs.internal.Maps.{IsIndexed, texts_of}
use Rattle.asm_text.specs.Names.{Tables}
use Rattle.asm_text.specs.Source.{SourceRead}

abbrev pub tables_value : TablesKept → Tables
tables_value t = record { sections = texts_of t.sections; names = texts_of t.names }

pub record AreIndexed (t : TablesKept) : Type 0 where
  pub sections : IsIndexed t.sections
  pub names : IsIndexed t.names

abbrev pub source_value : SourceKept → SourceRead
source_value s = record { tables = tables_value s.tables; statements = s.statements.items; stopped = s.stopped }
