use Rattle.std.proofs.Common.{◌∙◌}
use Rattle.mod_layout.proofs.Found.{found_kept}
use Rattle.attest.proofs.instruction.text_module.Goals as goal

pub returns-in-Entry-clause-kept : goal.returns-in-Entry-clause-kept
returns-in-Entry-clause-kept c = found_kept c.args.table.now _ c.copied.result (c.copied.ensures ∙ c.get.ensures.module_of) c.get.ensures.table
