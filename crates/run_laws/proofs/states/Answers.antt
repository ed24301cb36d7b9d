use Rattle.run_laws.proofs.Filled.{filled_at}
use Rattle.run_laws.proofs.Fine.{fine_at}
use Rattle.run_laws.proofs.Framed.{framed_at}
use Rattle.run_laws.proofs.Tame.{numbered}
use Rattle.run_laws.proofs.states.Goals as goal

pub returns : goal.returns
returns c = record {
  core = λ a schedule k ok. (fine_at a schedule k ok).core_ok;
  table = λ a schedule k ok. (fine_at a schedule k ok).table_ok;
  once = λ a schedule k m. (framed_at a schedule k).once m;
  few = λ a schedule k. (framed_at a schedule k).few;
  full = λ a schedule k ok. (filled_at a schedule k ok).full;
  bytes = λ a schedule k n ok. (filled_at a schedule k ok).bytes n;
  number = numbered;
}
