use Rattle.schedule_file.proofs.EntryLemmas.{entries_are_read}
use Rattle.schedule_file.proofs.laws.one_line_an_entry.Goals as goal

pub returns : goal.returns
returns c = record { read = entries_are_read }
