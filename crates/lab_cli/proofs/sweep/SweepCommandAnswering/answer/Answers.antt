use Rattle.std.proofs.Common.{List, ℕ, ap₂, subst}
use Rattle.sm_io.specs.Sink.{Took, CutOff}
use Rattle.cli_files.specs.Files.{an_image, image_file, need, Holds}
use Rattle.cli_calls.specs.Command.{Answer}
use Rattle.cli_calls.specs.Runs.{EndsAs}
use Rattle.cli_calls.proofs.Given.{gives_answer}
use Rattle.lab_cli.specs.SweepCommand.{sweep_answer, sweep_command, sweep_status}
use Rattle.lab_cli.proofs.Serving.{sweep_comes}
use Rattle.lab_cli.proofs.sweep.SweepCommandAnswering.answer.Goals as goal

abbrev told : List ℕ → ℕ → Answer
told text n = record { text = text; status = sweep_status n }

pub returns-in-Ok-sweep-clause-ok : goal.returns-in-Ok-sweep-clause-ok
returns-in-Ok-sweep-clause-ok g c =
    let own = c.args.self.now in
    let first = c.in-Ok.first in
    let second = c.in-Ok-load.second in
    let held = subst (λ o. Holds o (need own.second.now image_file) (an_image second)) c.in-Ok.ensures.same_files c.in-Ok-load.ensures.holds in
    let files = g.F.Files.content c.args.files.now in
    let comes = sweep_comes files own.first.now own.second.now own.pulses first second c.in-Ok.ensures.holds held in
    record {
      answer = sweep_answer own.pulses first second;
      served = gives_answer files (sweep_command own.first.now own.second.now own.pulses) (sweep_answer own.pulses first second) comes;
      sound = tt;
      ends = subst (λ (a : Answer). EndsAs c.put_swept.result a (Took g.O.Sink.taken g.O.Sink.faults g.O.Sink.sure c.args.out.now c.put_swept.new.out) (CutOff g.O.Sink.taken g.O.Sink.faults g.O.Sink.sure c.args.out.now c.put_swept.new.out))
          (ap₂ told c.in-Ok-sweep.ensures.text c.in-Ok-sweep.ensures.different) c.put_swept.ensures;
    }
