use Rattle.std.proofs.Common.{◌≡◌, ◌∙◌, ℕ, List, [], ◌∷◌, ap, subst}
use Rattle.lone_run.specs.Ends.{call_answer}
use Rattle.lone_run.specs.declared.Outcome.{Outcome as End}
use Rattle.sm_io.specs.Sink.{Took, CutOff}
use Rattle.cli_files.specs.Files.{an_image}
use Rattle.sm_cli.specs.LoneCommand.{lone_command, lone_end, end_answer, lone_outcome}
use Rattle.sm_cli.specs.Pairs.{core_with}
use Rattle.cli_calls.specs.Runs.{EndsAs}
use Rattle.cli_calls.proofs.Given.{gives_answer}
use Rattle.sm_cli.proofs.OfModule.{of_module}
use Rattle.sm_cli.proofs.commands.lone.LoneCommandAnswering.answer.Goals as goal

pub returns-in-Ok-lone_end-clause-ok : goal.returns-in-Ok-lone_end-clause-ok
returns-in-Ok-lone_end-clause-ok g c =
    let own = c.args.self.now in
    let registers = core_with own.pairs.items in
    let chosen = c.in-Ok.chosen in
    let same : c.core_with.result ≡ registers = c.core_with.ensures ∙ ap core_with c.as_slice.ensures.value in
    let ended = c.in-Ok-lone_end.ensures ∙ ap (λ (r : List ℕ). call_answer (lone_end chosen.image chosen.«module» r own.limit)) same in
    let told = end_answer own.limit (call_answer (lone_end chosen.image chosen.«module» registers own.limit)) in
    record {
      answer = told;
      served = gives_answer (g.F.Files.content c.args.files.now) (lone_command own.image.now own.id own.limit (core_with own.pairs.items)) told
          (record { helds = an_image chosen.image ∷ []; hold = (c.in-Ok.ensures.holds, tt); is = of_module (lone_outcome own.limit registers) chosen.image own.id chosen.«module» [] c.in-Ok.ensures.chosen });
      sound = tt;
      ends = subst
          (λ (end : End). EndsAs c.put_end.result (end_answer own.limit end) (Took g.O.Sink.taken g.O.Sink.faults g.O.Sink.sure c.args.out.now c.put_end.new.out) (CutOff g.O.Sink.taken g.O.Sink.faults g.O.Sink.sure c.args.out.now c.put_end.new.out))
          ended c.put_end.ensures;
    }
