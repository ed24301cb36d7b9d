use Rattle.std.proofs.Common.{[], ◌∷◌, refl, subst}
use Rattle.flow_rule.specs.Terms.{no_terms}
use Rattle.written_machine.specs.Peers.{section}
use Rattle.sm_cli.specs.BalanceCommand.{balance_outcome}
use Rattle.cli_calls.specs.Command.{judges, verdict_answer}
use Rattle.cli_files.specs.Files.{an_image, certificates, arms_file, need, Holds}
use Rattle.sm_cli.proofs.OfModule.{of_module}
use Rattle.sm_cli.proofs.commands.balance.BalanceCommandAnswering.answer.Goals as goal

pub returns-in-Ok-verdict_with-clause-ok : goal.returns-in-Ok-verdict_with-clause-ok
returns-in-Ok-verdict_with-clause-ok g c =
    let chosen = c.in-Ok.chosen in
    let arms = c.in-Ok-load.arms.list.items in
    let verdict = c.in-Ok-verdict_with.verdict in
    let held = subst (λ o. Holds o (need c.args.self.now.arms.now arms_file) (certificates arms)) c.in-Ok.ensures.same_files c.in-Ok-load.ensures.holds in
    record {
      answer = verdict_answer verdict;
      served = record {
        outcome = judges no_terms chosen.«module» (section chosen.«module».text chosen.image.memory) arms;
        comes = record { helds = an_image chosen.image ∷ certificates arms ∷ []; hold = (c.in-Ok.ensures.holds, (held, tt)); is = of_module balance_outcome chosen.image c.args.self.now.id chosen.«module» (certificates arms ∷ []) c.in-Ok.ensures.chosen };
        is = record { verdict = verdict; is = c.in-Ok-verdict_with.ensures; tells = refl };
      };
      sound = tt;
      ends = c.put_verdict.ensures;
    }
