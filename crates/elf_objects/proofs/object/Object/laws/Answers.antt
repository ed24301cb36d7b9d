use Rattle.std.proofs.Common.{subst}
use Rattle.elf_objects.specs.Object.{IsObject}
use Rattle.elf_objects.proofs.object.Object.laws.Goals as goal

pub returns : goal.returns
returns c = record { lawful = subst IsObject c.self.view_is c.self.invariant.0 }
