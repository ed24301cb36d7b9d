use Rattle.pulse_sweep.proofs.Peers.{row_same, none_different}
use Rattle.pulse_sweep.proofs.laws.peers.Goals as goal

pub returns-clause-same : goal.returns-clause-same
returns-clause-same c = row_same c.two_runs.ensures.views c.two_runs.ensures.events c.texts.ensures.traces

pub returns-clause-none : goal.returns-clause-none
returns-clause-none c = none_different c.texts.ensures.traces
