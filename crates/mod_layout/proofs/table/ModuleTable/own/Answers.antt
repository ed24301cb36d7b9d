use Rattle.std.proofs.Common.{◌∙◌}
use Rattle.mod_layout.proofs.Found.{found_kept}
use Rattle.mod_layout.proofs.table.ModuleTable.own.Goals as goal

pub returns-clause-kept : goal.returns-clause-kept
returns-clause-kept c = found_kept c.args.self.now _ c.copied.result (c.copied.ensures ∙ c.get.ensures.module_of) c.get.ensures.table
