use Rattle.sm_cli.proofs.Alike.{alike}
use Rattle.sm_cli.proofs.laws.runs_are_alike.Goals as goal

pub returns : goal.returns
returns c = record { alike = alike c.two_runs.ensures.events c.texts.ensures.ends c.workloads_are_peers.ensures.peers }
