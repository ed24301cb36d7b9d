use Rattle.std.proofs.Common.{subst}
use Rattle.flow_check.specs.internal.Exploring.{Ends}
use Rattle.flow_check.proofs.Endings.{complete, violated, unfinished}
use Rattle.flow_check.proofs.unrolling_of.Goals as goal

pub returns-in-Complete : goal.returns-in-Complete
returns-in-Complete c = λ x h. complete c.args.steps c.in-Complete.left c.saturating_sub.result x c.saturating_sub.ensures (subst (λ e. Ends e x) c.in-Complete.is h)

pub returns-in-Violated : goal.returns-in-Violated
returns-in-Violated c = λ x h. violated c.args.steps c.in-Violated.left c.in-Violated.violation x (subst (λ e. Ends e x) c.in-Violated.is h)

pub returns-in-Unfinished : goal.returns-in-Unfinished
returns-in-Unfinished c = λ x h.
    unfinished c.args.steps c.in-Unfinished.left c.in-Unfinished.addr c.saturating_sub-in-Unfinished.result x c.saturating_sub-in-Unfinished.ensures (subst (λ e. Ends e x) c.in-Unfinished.is h)
