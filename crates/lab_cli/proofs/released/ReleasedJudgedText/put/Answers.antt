use Rattle.std.proofs.Common.{refl}
use Rattle.cli_calls.specs.Command.{verdict_answer}
use Rattle.lab_cli.proofs.released.ReleasedJudgedText.put.Goals as goal

pub returns-clause-told : goal.returns-clause-told
returns-clause-told g c =
    let verdict = c.in_ok-verdict.verdict in
    record {
      answer = verdict_answer verdict;
      is = record { verdict = verdict; is = c.in_ok-verdict.ensures; tells = refl };
      sound = tt;
      ends = c.put_verdict.ensures;
    }
