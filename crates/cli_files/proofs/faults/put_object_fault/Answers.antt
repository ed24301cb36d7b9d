use Rattle.cli_files.proofs.faults.put_object_fault.Goals as goal

pub returns-in-Relocation : goal.returns-in-Relocation
returns-in-Relocation g c = rw c.in-Relocation.is c.put_numbers.ensures

pub returns-in-Compressed : goal.returns-in-Compressed
returns-in-Compressed g c = rw c.in-Compressed.is c.put_field-in-Compressed.ensures

pub returns-in-RelSection : goal.returns-in-RelSection
returns-in-RelSection g c = rw c.in-RelSection.is c.put_field-in-RelSection.ensures

pub returns-in-HeaderSize : goal.returns-in-HeaderSize
returns-in-HeaderSize g c = rw c.in-HeaderSize.is c.put_field-in-HeaderSize.ensures
