use Rattle.sm_cli.proofs.Needed.{decided, answered}
use Rattle.cli_calls.proofs.Outcomes.{one_answer}
use Rattle.sm_cli.proofs.laws.every_command.Goals as goal

pub returns : goal.returns
returns c = record { decided = decided; answered = answered; one = one_answer }
