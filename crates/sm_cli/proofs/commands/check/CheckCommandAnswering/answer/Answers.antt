use Rattle.std.proofs.Common.{[], ◌∷◌, refl}
use Rattle.flow_rule.specs.Terms.{no_terms}
use Rattle.written_machine.specs.Peers.{section}
use Rattle.sm_cli.specs.CheckCommand.{check_outcome}
use Rattle.cli_calls.specs.Command.{judges, verdict_answer}
use Rattle.cli_files.specs.Files.{an_image}
use Rattle.sm_cli.proofs.OfModule.{of_module}
use Rattle.sm_cli.proofs.commands.check.CheckCommandAnswering.answer.Goals as goal

pub returns-in-Ok-verdict_of-clause-ok : goal.returns-in-Ok-verdict_of-clause-ok
returns-in-Ok-verdict_of-clause-ok g c =
    let chosen = c.in-Ok.chosen in
    let verdict = c.in-Ok-verdict_of.verdict in
    record {
      answer = verdict_answer verdict;
      served = record {
        outcome = judges no_terms chosen.«module» (section chosen.«module».text chosen.image.memory) [];
        comes = record { helds = an_image chosen.image ∷ []; hold = (c.in-Ok.ensures.holds, tt); is = of_module check_outcome chosen.image c.args.self.now.id chosen.«module» [] c.in-Ok.ensures.chosen };
        is = record { verdict = verdict; is = c.in-Ok-verdict_of.ensures; tells = refl };
      };
      sound = tt;
      ends = c.put_verdict.ensures;
    }
