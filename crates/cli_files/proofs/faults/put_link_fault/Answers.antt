use Rattle.cli_files.proofs.faults.put_link_fault.Goals as goal

pub returns-in-EntryElsewhere : goal.returns-in-EntryElsewhere
returns-in-EntryElsewhere g c = rw c.in-EntryElsewhere.is c.put_numbers-in-EntryElsewhere.ensures
