use Rattle.isolation.proofs.Telling.{traces_while, lines_while, ends_while, outside_equal, stands_same}
use Rattle.isolation.proofs.Whole.{none_differs}
use Rattle.isolation.proofs.Playing.{plays_equal, leads_equal}
use Rattle.isolation.proofs.texts.Goals as goal

pub returns : goal.returns
returns c = record {
  traces = λ a b m schedule n p. traces_while a b m _ schedule p n (none_differs a b m schedule n);
  lines = λ a b m schedule k n p. lines_while a b m _ schedule p k n (none_differs a b m schedule _);
  ends = λ a b m schedule k p. ends_while a b m _ schedule p k (none_differs a b m schedule k);
  outside = λ a b m schedule k p. outside_equal a b m schedule p k;
  stands = λ a b m schedule k addr p. stands_same a b m schedule p addr k;
  scripts = λ a b m schedule most k ks ls p. plays_equal a b m schedule p most ls k ks;
  leads = λ a b m schedule most k ks ls p. leads_equal a b m schedule p most ls k ks;
}
