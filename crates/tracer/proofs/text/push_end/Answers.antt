use Rattle.tracer.proofs.Registers.{says_outside}
use Rattle.tracer.proofs.text.push_end.Goals as goal

pub returns-in-Outside-clause-text : goal.returns-in-Outside-clause-text
returns-in-Outside-clause-text c = says_outside _ _ _ _ _ c.in-Outside.is c.push_str-in-Outside.ensures.bytes c.push_registers.ensures.text
