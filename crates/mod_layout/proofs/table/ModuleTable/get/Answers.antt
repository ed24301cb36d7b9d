use Rattle.std.proofs.Common.{◌∙◌, ap}
use Rattle.mod_layout.specs.Table.{Table, module_of}
use Rattle.mod_layout.proofs.table.ModuleTable.get.Goals as goal
use Rattle.mod_layout.proofs.Found.{find_module}

pub returns-clause-module_of : goal.returns-clause-module_of
returns-clause-module_of c = c.module_with.ensures ∙ ap (λ ms. find_module c.args.id ms) c.as_slice.ensures.value ∙ ap (λ (t : Table). module_of c.args.id t) c.self.view_is
