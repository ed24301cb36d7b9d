use Rattle.std.proofs.Common.{sym}
use Rattle.cli_files.proofs.faults.put_region.Goals as goal

pub returns-in-ModuleText : goal.returns-in-ModuleText
returns-in-ModuleText g c = rw (c.in-ModuleText.is, sym c.from.ensures) c.put_field.ensures

pub returns-in-ModuleData : goal.returns-in-ModuleData
returns-in-ModuleData g c = rw (c.in-ModuleData.is, sym c.from-in-ModuleData.ensures) c.put_field-in-ModuleData.ensures
