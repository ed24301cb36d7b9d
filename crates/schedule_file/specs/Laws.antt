-- The law of entries. It is what a function of this crate ensures.
use Rattle.texts.specs.Laws.{IsReadExactly}
use Rattle.schedule_file.specs.Entries.{IsScheduleEntry}
use Rattle.schedule_file.specs.Line.{entry_of, entry_text}

-- A line is read as an entry exactly where it is that entry's text.
abbrev pub EntriesAreRead : Type 0
EntriesAreRead = IsReadExactly entry_of entry_text IsScheduleEntry
