use Rattle.std.proofs.Common.{rules}
use Rattle.owner_steps.proofs.Touched.{resumes, returns_plain}
use Rattle.owner_steps.proofs.touching.shown_touches.Goals as goal

pub returns-then-is_module_newest : goal.returns-then-is_module_newest
returns-then-is_module_newest c aligned = resumes c.args.insn.now c.args.settled.now _ c.in-Reti.is (search rules) c.new-then-is_module_newest.ensures

pub returns-else-is_module_newest : goal.returns-else-is_module_newest
returns-else-is_module_newest c aligned = returns_plain c.args.insn.now c.args.settled.now _ c.in-Reti.is (search rules) c.touched.ensures aligned
