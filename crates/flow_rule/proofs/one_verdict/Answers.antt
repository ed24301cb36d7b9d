use Rattle.flow_rule.specs.Values.{blurred_flags}
use Rattle.flow_rule.specs.Arms.{flow_under}
use Rattle.flow_rule.specs.Verdict.{start_under}
use Rattle.flow_rule.proofs.Ends.{some_verdict}
use Rattle.flow_rule.proofs.OneVerdict.{one_verdict}
use Rattle.flow_rule.proofs.one_verdict.Goals as goal

pub returns : goal.returns
returns c = record {
  some = λ terms m text arms. some_verdict (flow_under blurred_flags terms m text arms) (start_under terms m text) m.text.start;
  one = λ terms m text arms. one_verdict (flow_under blurred_flags terms m text arms) (start_under terms m text) m.text.start;
}
