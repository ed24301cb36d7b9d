use Rattle.std.proofs.Common.{[], ◌∷◌, refl, ◌∙◌}
use Rattle.vendor_tool.specs.NonceSchedule.{schedule_entries, entries_text}
use Rattle.cli_files.specs.declared.answers.Status.TheVariants.{Done}
use Rattle.cli_files.specs.Files.{the_challenges}
use Rattle.sm_cli.specs.ChallengeCommand.{challenge_command}
use Rattle.cli_calls.proofs.Given.{put_answer}
use Rattle.sm_cli.proofs.commands.challenge.ChallengeCommandAnswering.answer.Goals as goal

pub returns-in-Ok-schedule_text-clause-ok : goal.returns-in-Ok-schedule_text-clause-ok
returns-in-Ok-schedule_text-clause-ok g c =
    let list = c.in-Ok.challenges.list.items in
    put_answer g.O.Sink.taken g.O.Sink.faults g.O.Sink.sure _ _ (g.F.Files.content c.args.files.now) (challenge_command c.args.self.now.challenges.now) (record { text = entries_text (schedule_entries list); status = Done }) c.as_slice.result.now _ _
    (record { helds = the_challenges list ∷ []; hold = (c.in-Ok.ensures.holds, tt); is = refl }) refl (c.as_slice.ensures.value ∙ c.in-Ok-schedule_text.ensures.text) c.put_all.ensures.put c.status_after.ensures
