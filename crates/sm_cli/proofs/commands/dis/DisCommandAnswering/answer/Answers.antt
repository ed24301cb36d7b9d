use Rattle.std.proofs.Common.{◌≡◌, [], ◌∷◌, refl, ap, rules}
use Rattle.cli_files.specs.declared.answers.Status.TheVariants.{Done}
use Rattle.sm_cli.specs.DisCommand.{dis_command, listing}
use Rattle.cli_files.specs.Files.{an_image}
use Rattle.cli_calls.proofs.Given.{put_answer}
use Rattle.sm_cli.proofs.commands.dis.DisCommandAnswering.answer.Goals as goal

pub returns-clause-ok : goal.returns-clause-ok
returns-clause-ok g c =
    let own = c.args.self.now in
    let memory : c.as_slice-memory.result.now ≡ c.in-Ok.image.memory = search rules in
    put_answer g.O.Sink.taken g.O.Sink.faults g.O.Sink.sure _ _ (g.F.Files.content c.args.files.now) (dis_command own.image.now own.start own.end) (record { text = listing c.in-Ok.image.memory own.start own.end; status = Done }) _ _ _
    (record { helds = an_image c.in-Ok.image ∷ []; hold = (c.in-Ok.ensures.holds, tt); is = refl }) refl (ap (λ l. listing l own.start own.end) memory) c.put_listing.ensures c.status_after.ensures
