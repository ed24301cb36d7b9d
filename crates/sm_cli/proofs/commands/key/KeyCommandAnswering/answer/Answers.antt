use Rattle.std.proofs.Common.{[], ◌∷◌, refl}
use Rattle.cli_files.specs.declared.answers.Status.TheVariants.{Done}
use Rattle.cli_files.specs.Files.{an_image}
use Rattle.sm_cli.specs.KeyCommand.{key_command, key_lines, key_outcome}
use Rattle.cli_calls.proofs.Given.{put_answer}
use Rattle.sm_cli.proofs.OfModule.{of_module}
use Rattle.sm_cli.proofs.commands.key.KeyCommandAnswering.answer.Goals as goal

pub returns-clause-ok : goal.returns-clause-ok
returns-clause-ok g c =
    let chosen = c.in-Ok.chosen in
    let lines = key_lines chosen.image chosen.«module» in
    put_answer g.O.Sink.taken g.O.Sink.faults g.O.Sink.sure _ _ (g.F.Files.content c.args.files.now) (key_command c.args.self.now.image.now c.args.self.now.id) (record { text = lines; status = Done }) lines _ _
    (record { helds = an_image chosen.image ∷ []; hold = (c.in-Ok.ensures.holds, tt); is = of_module key_outcome chosen.image c.args.self.now.id chosen.«module» [] c.in-Ok.ensures.chosen }) refl refl c.put_keys.ensures c.status_after.ensures
