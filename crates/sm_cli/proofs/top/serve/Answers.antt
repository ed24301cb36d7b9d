use Rattle.std.proofs.Common.{[], refl, subst}
use Rattle.sm_io.specs.Sink.{Took}
use Rattle.cli_calls.specs.Command.{gives, runs, trace_answer}
use Rattle.cli_calls.specs.CommandNames.{command_of}
use Rattle.sm_cli.specs.CommandLine.{sancus_commands}
use Rattle.sm_cli.specs.MonitorCommand.{script_answer}
use Rattle.sm_cli.specs.declared.commands.script.TheConstants.{MOST_MARKS}
use Rattle.cli_calls.specs.Words.{texts}
use Rattle.cli_files.specs.declared.answers.Status.TheVariants as status
use Rattle.cli_calls.proofs.Ending.{at, no_command, bad_file, link_refused, completes, whole, cut_rose}
use Rattle.sm_cli.proofs.Checking.{checked_peers}
use Rattle.sm_cli.proofs.Needed.{if_answered}
use Rattle.sm_cli.proofs.top.serve.Goals as goal

pub returns : goal.returns
returns g c =
    let words = texts c.args.words.now in
    let files = g.F.Files.content c.args.files.now in
    let before = g.F.Files.faults c.args.files.now in
    let after = g.F.Files.faults c.end_call.new.files in
    let took = Took g.O.Sink.taken g.O.Sink.faults g.O.Sink.sure c.args.out.now c.end_call.new.out in
    let ended = c.end_call.result in
    let end = c.end_call.ensures.ended (command_of sancus_commands words) c.read_command-read.ensures.command in
    let out_rose = cut_rose g.O.Sink.taken g.O.Sink.faults g.O.Sink.sure c.args.out.now c.end_call.new.out in
    let err_rose = cut_rose g.E.Sink.taken g.E.Sink.faults g.E.Sink.sure c.args.err.now c.end_call.new.err in
    record {
      headline = λ value entries cycles input no_read no_out no_err room.
          let all = whole _ _ _ _ _ _ _ input.map input.command input.told input.asked ended end (runs value entries cycles) (trace_answer value entries cycles) input.comes refl room no_read
          (λ h. no_out (out_rose _ h)) (λ text h. no_err (err_rose text h)) in (
            all.0,
            all.1,
            λ other m peers. (
              subst (λ t. Took g.O.Sink.taken g.O.Sink.faults g.O.Sink.sure c.args.out.now c.end_call.new.out t) (c.texts.ensures.traces value other m entries cycles peers) all.0.0,
              λ k within. c.two_runs.ensures.views value other m entries k peers,
            ),
          );
      scripts = λ value entries script input no_read no_out no_err room.
          let answer = script_answer value entries script in
          let all = whole _ _ _ _ _ _ _ input.map input.command input.told input.asked ended end (gives answer) answer input.comes refl room no_read
          (λ h. no_out (out_rose _ h)) (λ text h. no_err (err_rose text h)) in (
            all.0,
            λ other m peers. subst (λ t. Took g.O.Sink.taken g.O.Sink.faults g.O.Sink.sure c.args.out.now c.end_call.new.out t)
                (c.texts.ensures.scripts value other m entries MOST_MARKS 0 [] script peers) all.0.0,
          );
      checked = λ e value other id owner arms input d. checked_peers words files before after took value other id owner arms input d (at _ _ _ _ _ _ _ ended status.Done end e).0 c.accepted_are_peers.ensures.peers;
      done = at _ _ _ _ _ _ _ ended status.Done end;
      stopped = at _ _ _ _ _ _ _ ended status.Stopped end;
      check_no = at _ _ _ _ _ _ _ ended status.CheckNo end;
      usage = at _ _ _ _ _ _ _ ended status.Usage end;
      bad_file = at _ _ _ _ _ _ _ ended status.BadFile end;
      link_refused = at _ _ _ _ _ _ _ ended status.LinkRefused end;
      read_fault = at _ _ _ _ _ _ _ ended status.ReadFault end;
      no_memory = at _ _ _ _ _ _ _ ended status.NoMemory end;
      write_fault = at _ _ _ _ _ _ _ ended status.WriteFault end;
      complete_usage = no_command _ _ _ _ _ _ _ ended end;
      complete_bad_file = λ map command name fault told asked first. bad_file _ _ _ _ _ _ _ map command told asked ended end name fault first;
      complete_link_refused = λ map command fault name told asked comes. link_refused _ _ _ _ _ _ _ map command told asked ended end name fault comes;
      complete = λ map command outcome told asked comes. if_answered words map command outcome _ asked comes (λ answer is. completes _ _ _ _ _ _ _ map command told asked ended end answer is);
      sound = c.end_call.ensures.sound;
      same_sound = c.end_call.ensures.same_sound;
      same_files = c.end_call.ensures.same_files;
      unread = c.end_call.ensures.unread;
    }
