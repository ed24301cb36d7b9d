use Rattle.sm_cli.proofs.Stops.{runs_stop}
use Rattle.sm_cli.proofs.laws.runs_stop.Goals as goal

pub returns : goal.returns
returns c = record { stopped = runs_stop c.tells.ensures.stop c.tells.ensures.refused }
