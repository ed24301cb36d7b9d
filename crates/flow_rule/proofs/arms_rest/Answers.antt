use Rattle.flow_rule.proofs.Resting.{arms_rest}
use Rattle.flow_rule.proofs.arms_rest.Goals as goal

pub returns : goal.returns
returns c = record { rest = λ terms m text insn target arm top x even e a none. arms_rest terms m text insn target arm top x even e a none }
