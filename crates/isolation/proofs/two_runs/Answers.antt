use Rattle.isolation.proofs.Whole.{none_differs, views_while, events_while, phases_while, callers_while, gie_while, gone_equal}
use Rattle.isolation.proofs.two_runs.Goals as goal

pub returns : goal.returns
returns c = record {
  views = λ a b m schedule k p. views_while a b m _ schedule p k (none_differs a b m schedule k);
  events = λ a b m schedule k p. events_while a b m _ schedule p k (none_differs a b m schedule _);
  phases = λ a b m schedule k p e. phases_while a b m _ schedule p k (none_differs a b m schedule k) e;
  callers = λ a b m schedule k p. callers_while a b m _ schedule p k (none_differs a b m schedule k);
  interrupts = λ a b m schedule k p. gie_while a b m _ schedule p k (none_differs a b m schedule k);
  gone = λ a b m schedule k p e. gone_equal a b m schedule p k e;
}
