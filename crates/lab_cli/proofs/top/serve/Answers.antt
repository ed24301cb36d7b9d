use Rattle.std.proofs.Common.{Some}
use Rattle.cli_calls.specs.Words.{texts}
use Rattle.cli_files.specs.declared.answers.Status.TheVariants as status
use Rattle.cli_calls.proofs.Ending.{at, no_command, bad_file, link_refused, completes}
use Rattle.cli_calls.proofs.Outcomes.{some_answer}
use Rattle.cli_calls.specs.CommandNames.{command_of}
use Rattle.lab_cli.specs.CommandLine.{lab_commands}
use Rattle.cli_calls.proofs.Given.{gives_answer}
use Rattle.lab_cli.specs.SweepCommand.{sweep_answer, sweep_command}
use Rattle.lab_cli.proofs.Accepting.{are_accepted}
use Rattle.lab_cli.proofs.Releasing.{released_peers}
use Rattle.lab_cli.proofs.Serving.{no_row_differs, something, sweep_comes}
use Rattle.lab_cli.proofs.top.serve.Goals as goal

pub returns-clause-ended : goal.returns-clause-ended
returns-clause-ended g c = c.end_call.ensures.ended (command_of lab_commands (texts c.args.words.now)) c.read_command-read.ensures.command

pub returns-clause-complete_usage : goal.returns-clause-complete_usage
returns-clause-complete_usage g c = no_command _ _ _ _ _ _ _ _ (returns-clause-ended g c)

pub returns-clause-complete_bad_file : goal.returns-clause-complete_bad_file
returns-clause-complete_bad_file g c = λ map command name fault is asked first. bad_file _ _ _ _ _ _ _ map command is asked _ (returns-clause-ended g c) name fault first

pub returns-clause-complete_link_refused : goal.returns-clause-complete_link_refused
returns-clause-complete_link_refused g c = λ map command fault name is asked comes. link_refused _ _ _ _ _ _ _ map command is asked _ (returns-clause-ended g c) name fault comes

pub returns-clause-complete : goal.returns-clause-complete
returns-clause-complete g c = λ map command outcome is asked comes.
    some_answer map command outcome _ (something (texts c.args.words.now) map command outcome asked comes) comes
    (λ answer a. completes _ _ _ _ _ _ _ map command is asked _ (returns-clause-ended g c) answer a)

pub returns-clause-peers : goal.returns-clause-peers
returns-clause-peers g c = λ first second id is peers.
    let answer = sweep_answer is.pulses first second in
    let command = sweep_command is.first_name is.second_name is.pulses in
    let comes = sweep_comes (Some is.map) is.first_name is.second_name is.pulses first second is.first_is is.second_is in
    no_row_differs _ is.pulses first second _ _ _ (c.peers.ensures.none is.pulses first second id peers)
    (completes _ _ _ _ _ _ _ is.map command is.told is.command _ (returns-clause-ended g c) answer (gives_answer (Some is.map) command answer comes))

pub returns-clause-released : goal.returns-clause-released
returns-clause-released g c = λ e value other id owner terms i d agree.
    released_peers _ _ _ _ _ value other id owner terms i d agree (at _ _ _ _ _ _ _ _ status.Done (returns-clause-ended g c) e).0 c.accepted_are_peers.ensures.answers c.terms_name_answers.ensures.registers

pub returns-clause-offered : goal.returns-clause-offered
returns-clause-offered g c = λ e value owner granted i.
    are_accepted _ _ _ _ _ value owner granted i (at _ _ _ _ _ _ _ _ status.Done (returns-clause-ended g c) e).0
