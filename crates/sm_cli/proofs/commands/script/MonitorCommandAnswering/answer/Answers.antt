use Rattle.std.proofs.Common.{subst, ◌∙◌}
use Rattle.std.specs.Option.{option_copied}
use Rattle.written_machine.specs.Marks.{Marked}
use Rattle.sm_io.specs.Sink.{Took, CutOff}
use Rattle.cli_files.specs.Files.{need, script_file, a_script, Holds, IsScheduleOf}
use Rattle.sm_cli.specs.MonitorCommand.{monitor_command, play_answer, script_answer, script_start}
use Rattle.cli_calls.specs.Runs.{EndsAs}
use Rattle.cli_calls.proofs.Given.{gives_answer}
use Rattle.sm_cli.proofs.Running.{monitor_comes}
use Rattle.sm_cli.proofs.commands.script.MonitorCommandAnswering.answer.Goals as goal

pub returns-in-Ok-with_marks-clause-ok : goal.returns-in-Ok-with_marks-clause-ok
returns-in-Ok-with_marks-clause-ok g c =
    let own = c.args.self.now in
    let files = g.F.Files.content c.args.files.now in
    let entries = c.in-Ok-load_schedule.schedule.entries.items in
    let script = c.in-Ok-load.playable.script.lines.items in
    let schedule = subst (λ o. IsScheduleOf o (option_copied own.schedule) entries) c.in-Ok.ensures.same_files c.in-Ok-load_schedule.ensures.entries in
    let playable = subst (λ o. Holds o (need own.script.now script_file) (a_script script)) (c.in-Ok-load_schedule.ensures.same_files ∙ c.in-Ok.ensures.same_files) c.in-Ok-load.ensures.holds in
    record {
      answer = script_answer c.in-Ok.image entries script;
      served = gives_answer files (monitor_command own.image.now (option_copied own.schedule) own.script.now) (script_answer c.in-Ok.image entries script)
          (monitor_comes files own.image.now (option_copied own.schedule) own.script.now c.in-Ok.image entries script c.in-Ok.ensures.holds schedule playable);
      sound = tt;
      ends = subst (λ (m : Marked). EndsAs c.put_play.result (play_answer m script) (Took g.O.Sink.taken g.O.Sink.faults g.O.Sink.sure c.args.out.now c.put_play.new.out) (CutOff g.O.Sink.taken g.O.Sink.faults g.O.Sink.sure c.args.out.now c.put_play.new.out)) {y = script_start c.in-Ok.image entries} c.in-Ok-with_marks.ensures.booted c.put_play.ensures;
    }
