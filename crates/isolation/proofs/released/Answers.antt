use Rattle.isolation.proofs.Whole.{views_while, events_while, callers_while, gie_while, phases_while, ends_while, cores_while}
use Rattle.isolation.proofs.Telling.{traces_while}
use Rattle.isolation.proofs.Several.{two_views, two_traces}
use Rattle.isolation.proofs.released.Goals as goal

pub returns : goal.returns
returns c = record {
  views = λ a b m answers schedule n p agree. views_while a b m answers schedule p n agree;
  events = λ a b m answers schedule n p agree. events_while a b m answers schedule p n agree;
  callers = λ a b m answers schedule n p agree. callers_while a b m answers schedule p n agree;
  interrupts = λ a b m answers schedule n p agree. gie_while a b m answers schedule p n agree;
  phases = λ a b m answers schedule n p agree e. phases_while a b m answers schedule p n agree e;
  traces = λ a b m answers schedule n p agree. traces_while a b m answers schedule p n agree;
  ends = λ a b m answers schedule n p agree. ends_while a b m answers schedule p n agree;
  registers = λ a b m answers schedule n p agree e. cores_while a b m answers schedule p n agree e;
  views_of_two = λ a c b m p answers replies schedule n ne first second u v. two_views a c b m p answers replies schedule ne first second n u v;
  traces_of_two = λ a c b m p answers replies schedule n ne first second u v. two_traces a c b m p answers replies schedule ne first second n u v;
}
