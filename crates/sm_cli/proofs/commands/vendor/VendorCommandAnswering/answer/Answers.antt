use Rattle.std.proofs.Common.{[], ◌∷◌, subst, List, ℕ}
use Rattle.sm_io.specs.Files.{FileMap}
use Rattle.sm_io.specs.Sink.{Took, CutOff}
use Rattle.std.specs.Prelude.{Option}
use Rattle.cli_files.specs.Files.{an_image, the_challenges, the_replies, need, challenges_file, trace_file, Holds}
use Rattle.cli_calls.specs.Runs.{EndsAs}
use Rattle.sm_cli.specs.VendorCommand.{vendor_command, key_under, report_answer, vendor_outcome}
use Rattle.cli_calls.proofs.Given.{gives_answer}
use Rattle.sm_cli.proofs.OfModule.{of_module}
use Rattle.sm_cli.proofs.commands.vendor.VendorCommandAnswering.answer.Goals as goal

pub returns-clause-ok : goal.returns-clause-ok
returns-clause-ok g c =
    let own = c.args.self.now in
    let files = g.F.Files.content c.args.files.now in
    let chosen = c.in-Ok.chosen in
    let list = c.in-Ok-load_exchange.exchange.challenges.list.items in
    let sent = c.in-Ok-load_exchange.exchange.replies.sent.items in
    let told = report_answer (key_under own.provider chosen.image chosen.«module») list sent in
    let challenges = subst (λ (o : Option FileMap). Holds o (need own.challenges.now challenges_file) (the_challenges list)) c.in-Ok.ensures.same_files c.in-Ok-load_exchange.ensures.challenges in
    let replies = subst (λ (o : Option FileMap). Holds o (need own.trace.now trace_file) (the_replies sent)) c.in-Ok.ensures.same_files c.in-Ok-load_exchange.ensures.replies in
    record {
      answer = told;
      served = gives_answer files (vendor_command own.image.now own.challenges.now own.trace.now own.id own.provider) told (record {
        helds = an_image chosen.image ∷ the_challenges list ∷ the_replies sent ∷ [];
        hold = (c.in-Ok.ensures.holds, (challenges, (replies, tt)));
        is = of_module (vendor_outcome own.provider) chosen.image own.id chosen.«module» (the_challenges list ∷ the_replies sent ∷ []) c.in-Ok.ensures.chosen;
      });
      sound = tt;
      ends = subst (λ (key : List ℕ). EndsAs c.put_report.result (report_answer key list sent) (Took g.O.Sink.taken g.O.Sink.faults g.O.Sink.sure c.args.out.now c.put_report.new.out) (CutOff g.O.Sink.taken g.O.Sink.faults g.O.Sink.sure c.args.out.now c.put_report.new.out)) c.key_of-key.ensures c.put_report.ensures;
    }
