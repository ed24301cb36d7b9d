-- What the text of a schedule gives: its entries, or the first refusal.
use Rattle.std.specs.Prelude.{ℕ, List, Result}
use Rattle.texts.specs.Rows.{Rows, rows_of}
use Rattle.schedule_file.specs.declared.Entry.{Entry}
use Rattle.schedule_file.specs.declared.ScheduleFault.{ScheduleFault}
use Rattle.schedule_file.specs.declared.ScheduleFault.TheVariants.{Line, NotRising, TooMany}
use Rattle.schedule_file.specs.Line.{entry_of}

-- no cycle is below that of the line before
abbrev pub entry_rows : Rows Entry ScheduleFault
entry_rows = record {
  row_of = entry_of;
  place = λ e. e.cycle;
  behind = λ e. e.cycle;
  most = 65536;
  too_many = TooMany;
  no_row = λ n. Line n;
  not_rising = λ n. NotRising n;
}

-- what a text gives, line by line from 1
unfoldable pub schedule_of : List ℕ → Result (List Entry) ScheduleFault
schedule_of text = rows_of entry_rows text
