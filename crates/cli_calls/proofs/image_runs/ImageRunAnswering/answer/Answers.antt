use Rattle.std.proofs.Common.{subst}
use Rattle.std.specs.Option.{option_copied}
use Rattle.written_machine.specs.Marks.{Marked}
use Rattle.written_machine.specs.View.{boot}
use Rattle.sm_io.specs.Sink.{Took, CutOff}
use Rattle.cli_files.specs.Files.{IsScheduleOf}
use Rattle.cli_calls.specs.Runs.{EndsAs}
use Rattle.cli_calls.proofs.Given.{image_run_comes}
use Rattle.cli_calls.proofs.image_runs.ImageRunAnswering.answer.Goals as goal

pub returns-in-Ok-new-clause-ok : goal.returns-in-Ok-new-clause-ok
returns-in-Ok-new-clause-ok g c =
    let own = c.args.self.now in
    let files = g.F.Files.content c.args.files.now in
    let image = c.in-Ok.image in
    let entries = c.in-Ok-load_schedule.schedule.entries.items in
    let text = g.T.RunText in
    let schedule = subst (λ o. IsScheduleOf o (option_copied own.schedule) entries) c.in-Ok.ensures.same_files c.in-Ok-load_schedule.ensures.entries in
    record {
      answer = text.told_from (boot image entries) own.cycles;
      served = record {
        outcome = text.told image entries own.cycles;
        comes = image_run_comes files text.told own.image.now (option_copied own.schedule) own.cycles image entries c.in-Ok.ensures.holds schedule;
        is = g.met.T.RunText.answers image entries own.cycles;
      };
      sound = g.met.T.RunText.sound image entries own.cycles c.in-Ok.ensures.holds.is.image;
      ends = subst (λ (m : Marked). EndsAs c.put.result (text.told_from m.present own.cycles) (Took g.O.Sink.taken g.O.Sink.faults g.O.Sink.sure c.args.out.now c.put.new.out) (CutOff g.O.Sink.taken g.O.Sink.faults g.O.Sink.sure c.args.out.now c.put.new.out)) c.in-Ok-new.ensures.booted c.put.ensures;
    }
