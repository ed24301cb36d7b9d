use Rattle.std.proofs.Common.{[], refl}
use Rattle.cli_files.specs.declared.answers.Status.TheVariants.{Done}
use Rattle.sm_cli.specs.MakeCommand.{make_command, make_text, runs_text, second_data}
use Rattle.sm_cli.proofs.Counting.{starts, told}
use Rattle.cli_calls.proofs.Given.{put_answer}
use Rattle.sm_cli.proofs.commands.make.MakeCommandAnswering.answer.Goals as goal

pub put_runs-requires-clause-first : goal.put_runs-requires-clause-first
put_runs-requires-clause-first g c = starts c.args.self.now.seed 0 c.in-Ok.boards.first c.in-Ok.ensures.first

pub put_runs-requires-clause-second : goal.put_runs-requires-clause-second
put_runs-requires-clause-second g c = starts c.args.self.now.seed (second_data c.args.self.now.seed) c.in-Ok.boards.second c.in-Ok.ensures.second

pub returns-in-Ok-clause-ok : goal.returns-in-Ok-clause-ok
returns-in-Ok-clause-ok g c =
    let seed = c.args.self.now.seed in
    let boards = c.in-Ok.boards in
    put_answer g.O.Sink.taken g.O.Sink.faults g.O.Sink.sure _ _ (g.F.Files.content c.args._files.now) (make_command seed) (record { text = make_text seed; status = Done }) (runs_text seed 200000 boards.first.present boards.second.present) _ _
    (record { helds = []; hold = tt; is = refl }) refl (told seed boards.first boards.second c.in-Ok.ensures.first c.in-Ok.ensures.second) c.put_runs.ensures c.status_after.ensures
