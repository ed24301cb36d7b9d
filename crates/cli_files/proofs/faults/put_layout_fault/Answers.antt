use Rattle.cli_files.proofs.faults.put_layout_fault.Goals as goal

pub returns-in-MissingKey : goal.returns-in-MissingKey
returns-in-MissingKey g c = rw c.in-MissingKey.is c.put_spot.ensures

pub returns-in-UnknownKey : goal.returns-in-UnknownKey
returns-in-UnknownKey g c = rw c.in-UnknownKey.is c.put_module.ensures
