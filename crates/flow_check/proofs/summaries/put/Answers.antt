use Rattle.std.proofs.Common.{refl}
use Rattle.flow_check.proofs.Subsuming.{kept_push, kept_set}
use Rattle.flow_check.proofs.summaries.put.Goals as goal

pub returns-then-place-len : goal.returns-then-place-len
returns-then-place-len c = λ p h all. kept_set p _ _ c.args.place c.args.summary refl h all

pub returns : goal.returns
returns c = λ p h all. kept_push p _ _ c.args.summary c.in_ok-push.ensures.items h all
