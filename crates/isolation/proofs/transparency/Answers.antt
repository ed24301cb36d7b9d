use Rattle.isolation.proofs.Entering.{entered_known}
use Rattle.isolation.proofs.Follow.{transparent}
use Rattle.isolation.proofs.transparency.Goals as goal

pub returns : goal.returns
returns c = record {
  owner = entered_known;
  stands = λ a schedule m owner k from n u. transparent a m owner schedule k from u.image u.enters u.owned n u.no_end;
}
